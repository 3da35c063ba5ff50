use Rattle.std.proofs.Common.{◌≡◌, ◌<◌, ◌-◌, ℕ, length, slice_index}
use Rattle.file_comtrade.specs.Ticks.{IsHolding, instant_of}
use Rattle.file_comtrade.proofs.ticks.held_at.Given as goal

abbrev pub invariant-loop-t : goal.invariant-loop-t
invariant-loop-t l = record {
  many : length l.at.items ≡ l.t;
  each : (j : ℕ) → j < l.t
      → IsHolding l.times (instant_of l.ticks j - l.origin) (slice_index l.at.items j);
}
