use Rattle.std.proofs.Common.{◌∙◌, ap, map}
use Rattle.judge_settle.specs.declared.settle.answer.Settled.{Settled}
use Rattle.judge_settle.specs.settle.Answers.{is_failing}
use Rattle.judge_times.proofs.Failing.{failing_told}
use Rattle.judge_times.proofs.exact.fails_at.Goals as goal

pub returns : goal.returns
returns c =
    failing_told c.args.of.now c.args.part.now c.in_ok-script.script c.in_ok-settled.settled.items
    c.in_ok-fails.fails.items c.in_ok-script.ensures c.in_ok-settled.ensures
    (c.in_ok-fails.ensures ∙ ap (map (λ (one : Settled). is_failing one.answer)) c.deref.ensures.value)
