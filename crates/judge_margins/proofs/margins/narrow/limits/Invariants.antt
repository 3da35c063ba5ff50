use Rattle.std.proofs.Common.{◌≡◌, ℕ, Some, length}
use Rattle.std.specs.Prelude.{slice_get}
use Rattle.judge_margins.specs.{declared.margins.end.End.End, margins.Ends.limit_of}
use Rattle.judge_margins.proofs.margins.narrow.limits.Given as goal

abbrev pub invariant-loop-place : goal.invariant-loop-place
invariant-loop-place l = record {
  count : length l.ends.items ≡ l.place;
  each : (i : ℕ) (end : End) → slice_get l.ends.items i ≡ Some end → end ≡ limit_of l.line i;
}
