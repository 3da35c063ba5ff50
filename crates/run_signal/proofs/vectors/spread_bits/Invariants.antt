use Rattle.std.proofs.Common.{◌≡◌, ℕ, ◌<◌, length, slice_index}
use Rattle.std.specs.Prelude.{if◌then◌else◌}
use Rattle.run_signal.specs.Bits.{bit_on}
use Rattle.run_signal.proofs.vectors.spread_bits.Given as goal

abbrev pub invariant-loop-lane : goal.invariant-loop-lane
invariant-loop-lane l = record {
  long : length l.lanes ≡ 64;
  spread : (k : ℕ) → k < l.lane → slice_index l.lanes k ≡ (if bit_on l.input k then 1 else 0);
}
