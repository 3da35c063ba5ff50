use Rattle.std.proofs.Common.{◌≡◌, ◌++◌, take}
use Rattle.cert_settle.specs.Text.{steps_text}
use Rattle.cert_settle.proofs.print.push_steps.Given as goal

abbrev pub invariant-loop-step : goal.invariant-loop-step
invariant-loop-step l =
    l.text.items ≡ l.initial.text.items ++ steps_text l.line (take l.step-index l.steps)
