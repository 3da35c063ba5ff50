use Rattle.std.proofs.Common.{◌≡◌, ℕ, Some, length}
use Rattle.std.specs.Prelude.{slice_get}
use Rattle.model_history.specs.Rails.{Ends}
use Rattle.model_line.specs.Parameters.{declared_ends}
use Rattle.judge_cases.proofs.view.declared_list.Given as goal

abbrev pub invariant-loop-param : goal.invariant-loop-param
invariant-loop-param l = record {
  count : length l.ends.items ≡ l.param;
  each : (i : ℕ) (e : Ends) → slice_get l.ends.items i ≡ Some e → e ≡ declared_ends l.line i;
}
