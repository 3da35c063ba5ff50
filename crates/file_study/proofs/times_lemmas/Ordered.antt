-- The ends of a time with a tolerance are in order.
use Rattle.std.proofs.Common.{◌+◌, ◌-◌, ◌*◌, ◌≤◌, ℕ, arith}
use Rattle.std.proofs.Math.Nat.{mul-le-mul_left, mul-le-mul_right}
use Rattle.file_study.specs.declared.times.fraction.Fraction.{Fraction}
use Rattle.file_study.specs.{times.Fractions.times, times.Fractions.plus, times.Fractions.less, times.Fractions.IsAtMost}
use Rattle.file_study.specs.{times.Units.whole}

apart : (x y m : ℕ) → x ≤ y → x - m ≤ y + m
apart x y m most = omega arith

pub ends_in_order : (value share margin : Fraction)
    → IsAtMost (less (times value (less (whole 1) share)) margin)
    (plus (times value (plus (whole 1) share)) margin)
ends_in_order value share margin =
    let low : ℕ = 1 * share.under - share.over * 1 in
    let high : ℕ = 1 * share.under + share.over * 1 in
    let first : low ≤ high = omega arith in
    let scaled : value.over * low ≤ value.over * high =
    mul-le-mul_left {m = low} {n = high} value.over first in
    let parted : value.over * low * margin.under ≤ value.over * high * margin.under =
    mul-le-mul_right {m = value.over * low} {n = value.over * high} margin.under scaled in
    let parts : ℕ = value.under * (1 * share.under) in
    mul-le-mul_right (parts * margin.under)
    (apart (value.over * low * margin.under) (value.over * high * margin.under)
    (margin.over * parts) parted)
