-- The values of a sweep.
use Rattle.std.specs.Prelude.{◌<◌, ◌↔◌, ℕ}
use Rattle.file_study.specs.declared.times.fraction.Fraction.{Fraction}
use Rattle.file_study.specs.declared.times.time.Sweep.{Sweep}
use Rattle.file_study.specs.{times.Fractions.times, times.Fractions.plus, times.Fractions.IsAtMost, times.Units.whole}

-- value i, counted from 0: the first and i steps more
abbrev pub value_of : Sweep → ℕ → Fraction
value_of sweep i = plus sweep.first (times (whole i) sweep.step)

-- So many values are at most the last.
abbrev pub IsCount : Sweep → ℕ → Type 0
IsCount sweep count = (i : ℕ) → (i < count) ↔ IsAtMost (value_of sweep i) sweep.last
