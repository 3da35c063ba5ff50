use Rattle.std.proofs.Common.{refl}
use Rattle.std.proofs.lemmas.Option.{slice_get-get_or}
use Rattle.judge_verdict.specs.verdict.OneEachLaws.{one_more}
use Rattle.call_shots.specs.Choices.{IsChoice}
use Rattle.call_shots.proofs.choice.choices_of.Goals as goal

pub loop-i-preserved : goal.loop-i-preserved
loop-i-preserved c =
    let line = c.args.cases.now.compiled.line.now in
    let shots = c.args.shots.now in
    one_more (IsChoice line c.args.cases.now.scripts.now shots) c.loop-i.i c.loop-i.timings.items
    c.push.new.self.items c.in_ok-timing.timing c.in_ok-push.ensures.items
    (record {
      shot = _;
      at = slice_get-get_or shots c.loop-i.i _ c.loop-i-test.true;
      is = c.in_ok-timing.ensures;
    })
    c.loop-i.invariant
