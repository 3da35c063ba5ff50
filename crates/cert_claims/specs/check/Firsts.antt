-- The first of several things that is wrong.
use Rattle.std.specs.Prelude.{◌≡◌, ◌<◌, ℕ, List, Some, slice_get}

-- this holds of each of the first of several, so many
abbrev pub EachOf : {X : Type 0} → (ℕ → X → Type 0) → List X → ℕ → Type 0
EachOf {X} holds xs n = (k : ℕ) (x : X) → k < n → slice_get xs k ≡ Some x → holds k x

-- this is wrong with the first of several that is not good
pub record IsWrongFirst {X Fault : Type 0} (IsGood : ℕ → X → Type 0)
    (IsWrong : ℕ → X → Fault → Type 0) (xs : List X) (fault : Fault) : Type 0 where
  pub place : ℕ
  pub item : X
  pub is : slice_get xs place ≡ Some item
  pub before : EachOf IsGood xs place
  pub wrong : IsWrong place item fault
