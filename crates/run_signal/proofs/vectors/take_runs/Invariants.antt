use Rattle.std.proofs.Common.{◌≡◌, ℕ, ◌<◌, ◌≤◌, length, slice_index}
use Rattle.run_signal.specs.Bits.{bit_on}
use Rattle.run_signal.specs.Counts.{run_after}
use Rattle.run_signal.proofs.vectors.take_runs.Given as goal

-- the lanes so far are done, and the others as they were
abbrev pub invariant-loop-lane : goal.invariant-loop-lane
invariant-loop-lane l = record {
  long : length l.run ≡ 64;
  done : (k : ℕ) → k < l.lane → slice_index l.run k ≡
      run_after (slice_index l.pickup k) l.count (slice_index l.initial.run k)
      (bit_on l.fn.input k);
  others : (k : ℕ) → l.lane ≤ k → slice_index l.run k ≡ slice_index l.initial.run k;
}
