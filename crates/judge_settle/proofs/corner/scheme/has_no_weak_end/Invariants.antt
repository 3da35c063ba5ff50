use Rattle.std.proofs.Common.{◌<◌, ℕ}
use Rattle.std.specs.Prelude.{IsFalse}
use Rattle.model_logic.specs.Elements.{is_weak}
use Rattle.judge_settle.proofs.corner.scheme.has_no_weak_end.Given as goal

abbrev pub invariant-loop-k : goal.invariant-loop-k
invariant-loop-k l = (k : ℕ) → k < l.k → IsFalse (is_weak l.line k)
