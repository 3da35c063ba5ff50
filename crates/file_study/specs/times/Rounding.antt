-- Times in ticks, rounded down and up.
use Rattle.std.specs.Prelude.{◌*◌, ◌≤◌, ℕ}
use Rattle.file_study.specs.declared.times.fraction.Fraction.{Fraction}
use Rattle.file_study.specs.declared.times.time.Interval.{Interval}
use Rattle.file_study.specs.{times.Fractions.IsAtMost, times.Units.whole}

-- n ticks of so many microseconds
abbrev pub ticks : ℕ → ℕ → Fraction
ticks tick_us n = whole (n * tick_us)

-- the greatest number of ticks that is at most the time
abbrev pub IsRoundedDown : ℕ → Fraction → ℕ → Type 0
IsRoundedDown tick_us a n =
    IsAtMost (ticks tick_us n) a × ((m : ℕ) → IsAtMost (ticks tick_us m) a → m ≤ n)

-- the least number of ticks that is at least the time
abbrev pub IsRoundedUp : ℕ → Fraction → ℕ → Type 0
IsRoundedUp tick_us a n =
    IsAtMost a (ticks tick_us n) × ((m : ℕ) → IsAtMost a (ticks tick_us m) → n ≤ m)

-- the time is a whole number of ticks, so that rounding does not move it
abbrev pub IsWhole : ℕ → Fraction → Type 0
IsWhole tick_us a = (n : ℕ) × (IsAtMost (ticks tick_us n) a × IsAtMost a (ticks tick_us n))

-- each time between the ends lies between these numbers of ticks
abbrev pub LiesBetween : ℕ → Interval → ℕ → ℕ → Type 0
LiesBetween tick_us ends least greatest = (a : Fraction)
    → IsAtMost ends.least a → IsAtMost a ends.greatest
    → IsAtMost (ticks tick_us least) a × IsAtMost a (ticks tick_us greatest)
