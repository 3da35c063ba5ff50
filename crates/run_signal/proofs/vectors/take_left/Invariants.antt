use Rattle.std.proofs.Common.{◌≡◌, ℕ, ◌<◌, ◌≤◌, length, slice_index}
use Rattle.run_signal.specs.Counts.{left_after}
use Rattle.run_signal.proofs.vectors.take_left.Given as goal

-- the lanes so far are done, and the others as they were
abbrev pub invariant-loop-lane : goal.invariant-loop-lane
invariant-loop-lane l = record {
  long : length l.left ≡ 64;
  done : (k : ℕ) → k < l.lane → slice_index l.left k ≡
      left_after (slice_index l.pickup k) (slice_index l.dropout k) l.count
      (slice_index l.run k) (slice_index l.initial.left k);
  others : (k : ℕ) → l.lane ≤ k → slice_index l.left k ≡ slice_index l.initial.left k;
}
