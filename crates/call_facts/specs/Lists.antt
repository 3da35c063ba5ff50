-- Elements of lists, and lists side by side.
use Rattle.std.specs.Prelude.{◌≡◌, ◌++◌, ℕ, zero, suc, Bool, List, [], ◌∷◌, Some, length, slice_get}
use Rattle.std.specs.Prelude.{if◌then◌else◌}

-- so it is with the element at this place
abbrev pub At : {X : Type 0} → List X → ℕ → (X → Type 0) → Type 0
At xs i so = (x : _) → slice_get xs i ≡ Some x → so x

-- one for each, in the same order
pub record EachOf {X Y : Type 0} (said : X → Y → Type 0) (xs : List X) (ys : List Y) : Type 0 where
  pub count : length ys ≡ length xs
  pub each : (i : ℕ) (x : X) (y : Y) → slice_get xs i ≡ Some x → slice_get ys i ≡ Some y → said x y

-- the element, if it is one of those
abbrev pub if_one : {X : Type 0} → Bool → X → List X
if_one is x = if is then x ∷ [] else []

-- of the numbers below n those of which it is so, in order
abbrev pub those_below : (ℕ → Bool) → ℕ → List ℕ
those_below is zero = []
those_below is (suc n) = those_below is n ++ if_one (is n) n
