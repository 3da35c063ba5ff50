-- The first of several numbers.
use Rattle.std.specs.Prelude.{◌<◌, ℕ}

-- n is the first number below `count` of which the fact does not hold
pub record IsFirstFailing (fact : ℕ → Type 0) (count n : ℕ) : Type 0 where
  pub inside : n < count
  pub fails : ¬ (fact n)
  pub before : (i : ℕ) → i < n → fact i
