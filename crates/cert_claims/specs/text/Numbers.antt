-- Numbers in a row, each after one space.
use Rattle.std.specs.Prelude.{◌≡◌, ◌<◌, ◌^◌, ℕ, List, ◌++◌}
use Rattle.base_text.specs.lines.SpacedNumbers.{spaced, numbers_text}

-- the text is that of a number and of more numbers
pub record BeginsNumber (text : List ℕ) (n : ℕ) (later : List ℕ) : Type 0 where
  pub small : n < 2 ^ 32
  pub more : List ℕ
  pub later_is : later ≡ numbers_text more
  pub is : text ≡ spaced n ++ later
