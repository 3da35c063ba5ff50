use Rattle.judge_margins.proofs.map_lemmas.PlacedLaws.{one_more}
use Rattle.judge_margins.proofs.map.intervals.placed.Goals as goal

pub loop-i-preserved : goal.loop-i-preserved
loop-i-preserved c =
    one_more c.args.line.now c.loop-i.other c.in_ok-other-2.other c.args.params.now c.args.least
    c.loop-i.i c.loop-i.invariant c.in_ok-other-2.ensures
