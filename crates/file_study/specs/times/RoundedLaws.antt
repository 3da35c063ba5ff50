-- Rounding to ticks, and the order of fractions.
use Rattle.std.proofs.Common.{◌*◌, ◌/◌, ◌<◌, ◌≤◌, ℕ, arith}
use Rattle.std.proofs.Math.Nat.{div-mul-le_self, mul-le-mul_right, le_of_mul-le-mul_right}
use Rattle.std.proofs.lemmas.Nat.{le-div}
use Rattle.file_study.specs.declared.times.fraction.Fraction.{Fraction}
use Rattle.file_study.specs.{times.Fractions.IsAtMost, times.Rounding.IsRoundedDown, times.Rounding.IsRoundedUp}

pub rounded_down : (a : Fraction) (tick : ℕ) → 0 < a.under → 0 < tick
    → IsRoundedDown tick a (a.over / a.under / tick)
rounded_down a tick some ticked =
    let n : ℕ = a.over / a.under / tick in
    let most : n * tick ≤ a.over / a.under = div-mul-le_self (a.over / a.under) tick in
    let all : n * tick * a.under ≤ a.over / a.under * a.under =
    mul-le-mul_right {m = n * tick} {n = a.over / a.under} a.under most in
    let own : a.over / a.under * a.under ≤ a.over = div-mul-le_self a.over a.under in (
      omega arith,
      λ m below. le-div m (a.over / a.under) tick ticked
          (le-div (m * tick) a.over a.under some (omega arith)),
    )

-- what is rounded down is at most what is rounded up
pub down-up : (a : Fraction) (tick down up : ℕ) → 0 < a.under → 0 < tick
    → IsRoundedDown tick a down → IsRoundedUp tick a up → down ≤ up
down-up a tick down up some ticked below above =
    let b : down * tick * a.under ≤ a.over * 1 = below.0 in
    let t : a.over * 1 ≤ up * tick * a.under = above.0 in
    le_of_mul-le-mul_right {m = down} {n = up} {k = tick}
    (le_of_mul-le-mul_right {m = down * tick} {n = up * tick} {k = a.under} (omega arith)
    some) ticked

pub at_most-trans : (a b c : Fraction) → 0 < b.under → IsAtMost a b → IsAtMost b c → IsAtMost a c
at_most-trans a b c some ab bc =
    let first : a.over * b.under * c.under ≤ b.over * a.under * c.under =
    mul-le-mul_right {m = a.over * b.under} {n = b.over * a.under} c.under ab in
    let second : b.over * c.under * a.under ≤ c.over * b.under * a.under =
    mul-le-mul_right {m = b.over * c.under} {n = c.over * b.under} a.under bc in
    le_of_mul-le-mul_right {m = a.over * c.under} {n = c.over * a.under} {k = b.under} (omega
    arith) some
