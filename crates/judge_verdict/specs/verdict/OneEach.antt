-- Lists with one element for each number.
use Rattle.std.specs.Prelude.{◌≡◌, ℕ, List, Some, length, slice_get}

-- an element for each number below n, and what is said of each
pub record OneEach {X : Type 0} (said : ℕ → X → Type 0) (n : ℕ) (xs : List X) : Type 0 where
  pub count : length xs ≡ n
  pub each : (k : ℕ) (x : X) → slice_get xs k ≡ Some x → said k x
