use Rattle.std.proofs.Common.{length}
use Rattle.run_waves.specs.waves.Waves.{wave_at}
use Rattle.judge_verdict.specs.verdict.OneEachLaws.{one_more}
use Rattle.judge_races.specs.Stretches.{IsOffFrom}
use Rattle.judge_races.proofs.stretch.offs.Goals as goal

pub loop-t-preserved : goal.loop-t-preserved
loop-t-preserved c =
    one_more (IsOffFrom (λ t. (wave_at c.args.wave.now t).may) (length c.args.wave.now))
    c.loop-t.t c.loop-t.offs.items c.push.new.self.items c.off_from.result
    c.in_ok-push.ensures.items c.off_from.ensures c.loop-t.invariant
