-- What stands behind the number of a tolerance, where it is no percent sign.
use Rattle.std.proofs.Common.{◌≡◌, ◌≢◌, ℕ, List, Option, Ok, refl, sym, ap}
use Rattle.file_study.specs.declared.times.fraction.Fraction.{Fraction}
use Rattle.file_study.specs.declared.times.word.Sign.{Sign}
use Rattle.file_study.specs.declared.times.word.Sign.TheVariants as sign
use Rattle.file_study.specs.{times.Units.whole}
use Rattle.base_memory.specs.Gives.{◌>>=◌}
use Rattle.file_study.specs.times.Times.{measured_at, closed, tolerated, behind_tolerance}

module _ (hertz : Option ℕ) (text : List ℕ) (value number : Fraction) (margin : Fraction)
    (is : Ok margin ≡ measured_at hertz text number 4) where
  bound : (measured_at hertz text number 4 >>= λ m. closed text 5 (tolerated value (whole 0) m))
      ≡ closed text 5 (tolerated value (whole 0) margin)
  bound = ap (λ r. r >>= λ m. closed text 5 (tolerated value (whole 0) m)) (sym is)

  -- a tolerance that is no share is a margin
  pub behind_margin : (s : Sign) → s ≢ sign.Percent
      → behind_tolerance hertz text value number s
      ≡ closed text 5 (tolerated value (whole 0) margin)
  behind_margin sign.End other = bound
  behind_margin sign.To other = bound
  behind_margin sign.PlusMinus other = bound
  behind_margin sign.By other = bound
  behind_margin sign.Percent other = absurd (other refl)
  behind_margin sign.Other other = bound
