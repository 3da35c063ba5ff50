-- What single lines of a configuration say, by their fields.
use Rattle.std.specs.Prelude.{◌&&◌, ◌||◌, ◌==◌, ◌+◌, ◌-◌, ℕ, nat_lt}
use Rattle.std.specs.Prelude.{List, [], ◌∷◌, length, take, map, get_or, codes}
use Rattle.std.specs.Prelude.{Option, Some, None, if◌then◌else◌}
use Rattle.std.specs.Char.{to_ascii_lowercase}
use Rattle.std.specs.Str.{bytes_eq}
use Rattle.base_records.specs.Fields.{is_empty}
use Rattle.file_comtrade.specs.{Calendar.moment_of, Number.natural_of, Number.scaled_of}
use Rattle.file_comtrade.specs.Number.{decimals_of}
use Rattle.file_comtrade.specs.declared.config.DateOrder.{DateOrder}
use Rattle.file_comtrade.specs.declared.config.DateOrder.TheVariants.{DayFirst, MonthFirst}
use Rattle.file_comtrade.specs.declared.config.Form.{Form}
use Rattle.file_comtrade.specs.declared.config.Form.TheVariants.{Ascii, Binary, Binary32, Float32}
use Rattle.file_comtrade.specs.declared.config.Rate.{Rate}
use Rattle.file_comtrade.specs.declared.config.Revision.{Revision}
use Rattle.file_comtrade.specs.declared.config.Revision.TheVariants.{Of1991, Of1999, Of2013}
use Rattle.file_comtrade.specs.declared.config.StampUnit.{StampUnit}
use Rattle.file_comtrade.specs.declared.config.StampUnit.TheVariants.{Microsecond, Nanosecond}

-- ---- the revision

abbrev pub revision_named : List ℕ → Option Revision
revision_named text =
    if bytes_eq text [] then Some Of1991
    else if bytes_eq text (codes "1991") then Some Of1991
    else if bytes_eq text (codes "1999") then Some Of1999
    else if bytes_eq text (codes "2013") then Some Of2013
    else None

-- the third field; a record of 1991 may have none
abbrev pub revision_in : List (List ℕ) → Option Revision
revision_in (station ∷ device ∷ revision ∷ rest) = revision_named revision
revision_in _ = Some Of1991

-- ---- the numbers of channels

-- a number and a letter, of either case
unfoldable pub counted : ℕ → List ℕ → Option ℕ
counted letter bytes =
    if nat_lt 0 (length bytes)
    && ((get_or bytes (length bytes - 1) 0 == letter)
    || (get_or bytes (length bytes - 1) 0 == letter + 32))
    then natural_of (take (length bytes - 1) bytes) else None

pub record Counts : Type 0 where
  pub analog : ℕ
  pub digital : ℕ

abbrev pub counts_of : Option ℕ → Option ℕ → Option ℕ → Option Counts
counts_of (Some all) (Some n) (Some m) =
    if all == n + m then Some (record { analog = n; digital = m }) else None
counts_of _ _ _ = None

-- all channels, the analog ones with an `A`, and the digital ones with a `D`
unfoldable pub counts_in : List (List ℕ) → Option Counts
counts_in (all ∷ n ∷ m ∷ []) = counts_of (natural_of all) (counted 65 n) (counted 68 m)
counts_in _ = None

-- ---- a channel

-- the id of a digital channel, whose line has three fields, five, or six of which the last is empty
abbrev pub id_in : List (List ℕ) → Option (List ℕ)
id_in (n ∷ id ∷ normal ∷ []) = Some id
id_in (n ∷ id ∷ phase ∷ circuit ∷ normal ∷ []) = Some id
id_in (n ∷ id ∷ phase ∷ circuit ∷ normal ∷ last ∷ []) = if is_empty last then Some id else None
id_in _ = None

-- ---- a rate

abbrev pub rate_of : Option ℕ → Option ℕ → Option Rate
rate_of (Some rate) (Some last) = Some (record { microhertz = rate; last = last })
rate_of _ _ = None

-- a rate in hertz and the number of its last sample
unfoldable pub rate_in : List (List ℕ) → Option Rate
rate_in (rate ∷ last ∷ []) = rate_of (scaled_of 6 rate) (natural_of last)
rate_in _ = None

-- ---- dates and times

-- the month stands first in 1991, and later the day; a recorder may keep to neither
abbrev pub order_of : Option DateOrder → Revision → DateOrder
order_of (Some order) revision = order
order_of None Of1991 = MonthFirst
order_of None Of1999 = DayFirst
order_of None Of2013 = DayFirst

unfoldable pub moment_in : DateOrder → List (List ℕ) → Option ℕ
moment_in order (date ∷ time ∷ []) = moment_of order date time
moment_in order _ = None

abbrev pub unit_by : Revision → ℕ → StampUnit
unit_by Of1991 decimals = Microsecond
unit_by Of1999 decimals = Microsecond
unit_by Of2013 decimals = if decimals == 9 then Nanosecond else Microsecond

-- what a stamp counts: nanoseconds in a record of 2013 whose first sample's time has nine decimals
unfoldable pub unit_in : Revision → List (List ℕ) → StampUnit
unit_in revision (date ∷ time ∷ []) = unit_by revision (decimals_of time)
unit_in revision _ = Microsecond

-- ---- lines of one field

abbrev pub form_named : List ℕ → Option Form
form_named text =
    if bytes_eq text (codes "ascii") then Some Ascii
    else if bytes_eq text (codes "binary") then Some Binary
    else if bytes_eq text (codes "binary32") then Some Binary32
    else if bytes_eq text (codes "float32") then Some Float32
    else None

-- the form of the data, in letters of either case
abbrev pub form_in : List (List ℕ) → Option Form
form_in (form ∷ []) = form_named (map to_ascii_lowercase form)
form_in _ = None

-- the one number of a line
abbrev pub natural_in : List (List ℕ) → Option ℕ
natural_in (n ∷ []) = natural_of n
natural_in _ = None

abbrev pub above_0 : Option ℕ → Option ℕ
above_0 None = None
above_0 (Some n) = if nat_lt 0 n then Some n else None

-- the factor of the stamps, in billionths, which is not 0
abbrev pub factor_in : List (List ℕ) → Option ℕ
factor_in (factor ∷ []) = above_0 (scaled_of 9 factor)
factor_in _ = None
