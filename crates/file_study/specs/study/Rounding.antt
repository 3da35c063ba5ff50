-- Times in whole ticks.
use Rattle.std.specs.Prelude.{◌+◌, ◌-◌, ◌/◌, ℕ, Bool, true, false}
use Rattle.file_study.specs.declared.times.fraction.Fraction.{Fraction}

-- the least whole number that is not below a quotient
abbrev pub divided_up : ℕ → ℕ → ℕ
divided_up n d = (n + (d - 1)) / d

-- rounded down
abbrev pub down : ℕ → Fraction → ℕ
down tick_us a = a.over / a.under / tick_us

-- rounded up
abbrev pub up : ℕ → Fraction → ℕ
up tick_us a = divided_up (divided_up a.over a.under) tick_us

-- rounded up, or else down
abbrev pub rounded : Bool → ℕ → Fraction → ℕ
rounded true tick_us a = up tick_us a
rounded false tick_us a = down tick_us a
