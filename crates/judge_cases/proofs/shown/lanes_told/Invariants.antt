use Rattle.std.proofs.Common.{◌≡◌, ℕ, Bool, Some, length}
use Rattle.std.specs.Prelude.{slice_get}
use Rattle.run_signal.specs.Bits.{bit_on}
use Rattle.judge_cases.proofs.shown.lanes_told.Given as goal

abbrev pub invariant-loop-lane : goal.invariant-loop-lane
invariant-loop-lane l = record {
  count : length l.told.items ≡ l.lane;
  each : (k : ℕ) (b : Bool) → slice_get l.told.items k ≡ Some b → b ≡ bit_on l.lanes k;
}
