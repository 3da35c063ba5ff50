use Rattle.std.proofs.Common.{◌≡◌, ℕ, Bool, Some, length}
use Rattle.std.specs.Prelude.{slice_get}
use Rattle.run_signal.specs.Bits.{bit_on}
use Rattle.judge_choose.proofs.lanes.in_lane.Given as goal

abbrev pub invariant-loop-place : goal.invariant-loop-place
invariant-loop-place l = record {
  count : length l.kept.items ≡ l.place;
  each : (place : ℕ) (b : Bool) → slice_get l.kept.items place ≡ Some b
      → (bits : ℕ) → slice_get l.told place ≡ Some bits → b ≡ bit_on bits l.lane;
}
