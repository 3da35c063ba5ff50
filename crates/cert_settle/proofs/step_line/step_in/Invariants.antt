use Rattle.std.proofs.Common.{◌≡◌, ◌≢◌, ◌<◌, ℕ}
use Rattle.model_timing.specs.{declared.step.Step.Step, Inside.IsStepInside}
use Rattle.cert_settle.specs.Grammar.{step_text}
use Rattle.cert_settle.proofs.step_line.step_in.Given as goal

-- none of the delays so far
abbrev pub invariant-loop-p : goal.invariant-loop-p
invariant-loop-p l =
    (param : ℕ) → param < l.p → (step : Step ℕ) → step.param ≡ param → IsStepInside l.line step
    → l.bytes ≢ step_text l.line step
