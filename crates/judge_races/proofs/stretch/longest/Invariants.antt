use Rattle.std.proofs.Common.{◌≡◌, ◌≤◌, ◌<◌, ◌-◌, ℕ}
use Rattle.std.specs.Prelude.{slice_get, Some}
use Rattle.judge_races.proofs.stretch.longest.Given as goal

abbrev pub invariant-loop-r : goal.invariant-loop-r
invariant-loop-r l = record {
  longest : (from off : ℕ) → from < l.r → slice_get l.offs from ≡ Some off → off - from ≤ l.best.ticks;
  first : (from off : ℕ) → from < l.best.from → slice_get l.offs from ≡ Some off → off - from < l.best.ticks;
  is : 1 ≤ l.best.ticks → (off : ℕ) × (slice_get l.offs l.best.from ≡ Some off) × (off - l.best.from ≡ l.best.ticks);
}
