-- Units of a time, in microseconds.
use Rattle.std.specs.Prelude.{◌&&◌, ℕ, List, codes, nat_le, Option, None, Some, Result, Ok, Err}
use Rattle.std.specs.Prelude.{if◌then◌else◌}
use Rattle.std.specs.Str.{bytes_eq}
use Rattle.file_study.specs.declared.times.fraction.Fraction.{Fraction}
use Rattle.file_document.specs.declared.time_fault.TimeFault.{TimeFault}
use Rattle.file_document.specs.declared.time_fault.TimeFault.TheVariants as fault
use Rattle.file_study.specs.declared.times.word.Sign.{Sign}
use Rattle.file_study.specs.declared.times.word.Sign.TheVariants as sign
use Rattle.file_study.specs.{times.Words.sign_in}

-- a whole number
abbrev pub whole : ℕ → Fraction
whole n = record { over = n; under = 1 }

-- one cycle of so many hertz
abbrev pub cycle_in : ℕ → Option ℕ → Result Fraction TimeFault
cycle_in place None = Err (fault.NoFrequency place)
cycle_in place (Some hertz) =
    if nat_le 1 hertz && nat_le hertz 1000 then Ok (record { over = 1000000; under = hertz })
    else Err (fault.NoFrequency place)

-- a word that is no unit: none stands there, or one that is not known
abbrev pub no_unit : ℕ → Sign → TimeFault
no_unit place sign.Other = fault.UnknownUnit place
no_unit place found = fault.NoUnit place

-- one of the unit that a word at this place is
abbrev pub unit_in : ℕ → Option ℕ → List ℕ → Result Fraction TimeFault
unit_in place hertz word =
    if bytes_eq word (codes "us") then Ok (whole 1)
    else if bytes_eq word (codes "ms") then Ok (whole 1000)
    else if bytes_eq word (codes "s") then Ok (whole 1000000)
    else if bytes_eq word (codes "cycles") then cycle_in place hertz
    else Err (no_unit place (sign_in word))
