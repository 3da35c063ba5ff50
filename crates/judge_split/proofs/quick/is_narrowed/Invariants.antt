use Rattle.std.proofs.Common.{◌≡◌, ◌<◌, ℕ, false}
use Rattle.model_history.specs.Rails.{IsPartOf}
use Rattle.model_line.specs.Parameters.{declared_ends}
use Rattle.model_history.specs.Recorded.{at as is_wide}
use Rattle.judge_split.proofs.quick.is_narrowed.Given as goal

abbrev pub invariant-loop-param : goal.invariant-loop-param
invariant-loop-param l = record {
  within : (i : ℕ) → i < l.param → IsPartOf (declared_ends l.part i) (declared_ends l.line i);
  same : (i : ℕ) → i < l.param → is_wide l.wide i ≡ false
      → declared_ends l.part i ≡ declared_ends l.line i;
}
