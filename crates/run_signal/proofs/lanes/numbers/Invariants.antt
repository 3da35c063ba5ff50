use Rattle.std.proofs.Common.{◌≡◌, ℕ, ◌<◌, ◌≤◌, slice_index, length}
use Rattle.run_signal.proofs.lanes.numbers.Given as goal

abbrev pub invariant-loop-lane : goal.invariant-loop-lane
invariant-loop-lane l = record {
  same : (k : ℕ) → k < l.lane → slice_index l.lanes k ≡ slice_index l.ticks k;
  long : length l.lanes ≡ 64;
  limited : (k : ℕ) → k < l.lane → slice_index l.lanes k ≤ 4000;
}
