-- A text of at most so many bytes, in an array of fixed width that is filled up with 0.
use Rattle.std.specs.Prelude.{◌≡◌, ◌≤◌, ◌-◌, ◌++◌, ℕ, List, take, replicate, length}
use Rattle.std.proofs.Common.{arith}
use Rattle.std.proofs.lemmas.List.{length-take-le}

-- n bytes of at most so many, and then zeros
pub record IsPadded (most n : ℕ) (bytes : List ℕ) : Type 0 where
  pub within : n ≤ most
  pub whole : length bytes ≡ most
  pub zeros : take n bytes ++ replicate (most - n) 0 ≡ bytes

-- the array of a text
abbrev pub padded : ℕ → List ℕ → List ℕ
padded most text = text ++ replicate (most - length text) 0

-- how long the text is
pub length-text :
    (most n : ℕ) (bytes : List ℕ) → IsPadded most n bytes → length (take n bytes) ≡ n
length-text most n bytes text =
    length-take-le n bytes (omega (arith, text.within, text.whole))
