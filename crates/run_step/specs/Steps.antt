-- Steps in a binary search.
use Rattle.std.specs.Prelude.{◌≡◌, ◌<◌, ◌≤◌, ℕ, true, false, List, Some, length, slice_get}
use Rattle.model_timing.specs.{declared.step.Step.Step, Timing.is_passed}

-- the first so many steps are passed, and no others
pub record IsParted {P : Type 0} (param t : ℕ) (steps : List (Step P)) (count : ℕ) : Type 0 where
  pub inside : count ≤ length steps
  pub below : (i : ℕ) (s : Step P) → i < count → slice_get steps i ≡ Some s
      → is_passed param t s ≡ true
  pub above : (i : ℕ) (s : Step P) → count ≤ i → slice_get steps i ≡ Some s
      → is_passed param t s ≡ false
