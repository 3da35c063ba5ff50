-- Fractions: sums, differences, products and their order.
use Rattle.std.specs.Prelude.{◌+◌, ◌-◌, ◌*◌, ◌≤◌, ◌<◌, Bool, ℕ, nat_le}
use Rattle.file_study.specs.declared.times.fraction.Fraction.{Fraction}

abbrev pub times : Fraction → Fraction → Fraction
times a b = record { over = a.over * b.over; under = a.under * b.under }

abbrev pub plus : Fraction → Fraction → Fraction
plus a b = record { over = a.over * b.under + b.over * a.under; under = a.under * b.under }

-- the difference; below 0 is 0
abbrev pub less : Fraction → Fraction → Fraction
less a b = record { over = a.over * b.under - b.over * a.under; under = a.under * b.under }

abbrev pub is_at_most : Fraction → Fraction → Bool
is_at_most a b = nat_le (a.over * b.under) (b.over * a.under)

-- a number whose parts are at most so large
pub record IsOfSize (over under : ℕ) (a : Fraction) : Type 0 where
  pub some : 0 < a.under
  pub under_most : a.under ≤ under
  pub over_most : a.over ≤ over

-- the order as a fact
abbrev pub IsAtMost : Fraction → Fraction → Type 0
IsAtMost a b = a.over * b.under ≤ b.over * a.under
