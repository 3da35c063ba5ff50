use Rattle.std.proofs.Common.{◌≡◌, ℕ, ◌<◌, ◌≤◌, length}
use Rattle.std.specs.Prelude.{slice_index}
use Rattle.model_timing.proofs.blocks.set_lanes_from.Given as goal

abbrev pub invariant-loop-lane : goal.invariant-loop-lane
invariant-loop-lane l = record {
  long : length l.ticks ≡ 64;
  set : (k : ℕ) → l.from ≤ k → k < l.lane → slice_index l.ticks k ≡ l.value;
  kept : (k : ℕ) → k < l.from → slice_index l.ticks k ≡ slice_index l.initial.ticks k;
}
