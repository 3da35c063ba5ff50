use Rattle.std.proofs.Common.{◌≡◌, ℕ, ◌<◌, ◌≤◌}
use Rattle.std.specs.Prelude.{slice_index}
use Rattle.run_signal.specs.Bits.{bit_on}
use Rattle.run_signal.specs.Counts.{steady_of}
use Rattle.run_signal.proofs.vectors.least_steady.Given as goal

-- the least of the lanes so far
abbrev pub invariant-loop-lane : goal.invariant-loop-lane
invariant-loop-lane l =
    let steady : ℕ → ℕ = λ k. steady_of (slice_index l.pickup k) (slice_index l.run k)
    (slice_index l.left k) (bit_on l.fn.input k) in
    record {
      under : (k : ℕ) → k < l.lane → l.least ≤ steady k;
      met : l.least < 4000 → (k : ℕ) × (k < l.lane) × (l.least ≡ steady k);
      limited : l.least ≤ 4000;
    }
