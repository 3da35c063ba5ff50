-- Lists with one element for each of the first n elements of another list.
use Rattle.std.specs.Prelude.{◌≡◌, ℕ, List, Some, length, slice_get}

pub record OneForEach {X Y : Type 0} (said : ℕ → X → Y → Type 0) (xs : List X) (ys : List Y)
    (n : ℕ) : Type 0 where
  pub count : length ys ≡ n
  pub each : (i : ℕ) (x : X) (y : Y) → slice_get xs i ≡ Some x → slice_get ys i ≡ Some y
      → said i x y
