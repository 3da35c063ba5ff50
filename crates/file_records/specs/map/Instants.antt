-- Instants in a map: that of tick 0, and by how much a recorder's clock is behind.
use Rattle.std.specs.Prelude.{◌&&◌, ◌==◌, ◌+◌, ◌-◌, ◌*◌, ℕ, ℤ, pos, negsuc, Bool, List, [], ◌∷◌}
use Rattle.std.specs.Prelude.{length, drop, slice_index, nat_le, nat_lt, Option, None, Some}
use Rattle.std.specs.Prelude.{Result, Ok, Err, if◌then◌else◌}
use Rattle.std.specs.Prelude.{unsigned_abs}
use Rattle.toml.specs.Data.{Data, integer}
use Rattle.file_comtrade.specs.Calendar.{moment_of}
use Rattle.file_comtrade.specs.declared.config.DateOrder.TheVariants.{DayFirst}
use Rattle.file_document.specs.declared.fault.DocumentFault.{DocumentFault}
use Rattle.file_document.specs.declared.fault.DocumentFault.TheVariants as fault

-- `yyyy-mm-ddT`, of a year from 1000 on, stands before the time
abbrev pub has_date : List ℕ → Bool
has_date text =
    nat_lt 48 (slice_index text 0) && (slice_index text 4 == 45) && (slice_index text 7 == 45)
    && (slice_index text 10 == 84)

-- the date as `dd/mm/yyyy`
abbrev pub date_in : List ℕ → List ℕ
date_in text =
    slice_index text 8 ∷ slice_index text 9 ∷ 47 ∷ slice_index text 5 ∷ slice_index text 6 ∷ 47
    ∷ slice_index text 0 ∷ slice_index text 1 ∷ slice_index text 2 ∷ slice_index text 3 ∷ []

abbrev pub dated : List ℕ → Option ℕ
dated text = if has_date text then moment_of DayFirst (date_in text) (drop 11 text) else None

-- `yyyy-mm-ddThh:mm:ss` with up to nine decimals, in nanoseconds from the start of the year 0
abbrev pub instant_of : List ℕ → Option ℕ
instant_of text = if nat_le 11 (length text) then dated text else None

abbrev pub instant_in : List ℕ → Option ℕ → Result ℕ DocumentFault
instant_in path None = Err (fault.BadDate path)
instant_in path (Some instant) = Ok instant

-- the microseconds of a day
abbrev pub day_us : ℕ
day_us = 86400000000

-- so much earlier, or, where the shift is negative, later
abbrev pub moved : List ℕ → ℕ → ℤ → ℕ → Result ℕ DocumentFault
moved path start (pos n) size =
    if nat_le (size * 1000) start then Ok (start - size * 1000) else Err (fault.Range path)
moved path start (negsuc n) size = Ok (start + size * 1000)

-- What is added to a recorder's times, in microseconds, at most a day: so tick 0 is so much earlier in
-- the recorder's clock.
abbrev pub shifted_by : List ℕ → ℕ → ℤ → Result ℕ DocumentFault
shifted_by path start shift =
    if nat_le (unsigned_abs shift) day_us then moved path start shift (unsigned_abs shift)
    else Err (fault.Range path)

abbrev pub shifted_in : List ℕ → ℕ → Data → Result ℕ DocumentFault
shifted_in path start (integer shift) = shifted_by path start shift
shifted_in path start _ = Err (fault.WrongKind path)

-- the instant of tick 0 in a recorder's clock
abbrev pub shifted : List ℕ → ℕ → Option Data → Result ℕ DocumentFault
shifted path start None = Ok start
shifted path start (Some d) = shifted_in path start d
