-- The times of samples, in nanoseconds after the first.
use Rattle.std.specs.Prelude.{◌==◌, ◌+◌, ◌-◌, ◌*◌, ◌/◌, ℕ, Bool, true, not, nat_le, nat_lt, List, []}
use Rattle.std.specs.Prelude.{◌∷◌, Option, Some, None, if◌then◌else◌}
use Rattle.file_comtrade.specs.{Config.ConfigValues, Options.◌>>=◌}
use Rattle.file_comtrade.specs.declared.config.Rate.{Rate}
use Rattle.file_comtrade.specs.declared.config.StampUnit.{StampUnit}
use Rattle.file_comtrade.specs.declared.config.StampUnit.TheVariants.{Microsecond, Nanosecond}

abbrev pub below_2_64 : ℕ → Option ℕ
below_2_64 n = if nat_lt n 18446744073709551616 then Some n else None

-- so many periods of a rate after an instant, rounded down
unfoldable pub periods_after : Rate → ℕ → ℕ → Option ℕ
periods_after rate base count =
    if rate.microhertz == 0 then None
    else below_2_64 (base + count * 1000000000000000 / rate.microhertz)

-- A sample by its number, after that one which came before these rates. Each rate goes on where the
-- one before it ended.
abbrev pub rated : List Rate → ℕ → ℕ → ℕ → Option ℕ
rated [] base before number = None
rated (rate ∷ rates) base before number =
    if nat_le number rate.last then periods_after rate base (number - before)
    else (periods_after rate base (rate.last - before)
    >>= λ next. rated rates next rate.last number)

-- how many billionths of what a stamp counts make a nanosecond
abbrev pub per_nanosecond : StampUnit → ℕ
per_nanosecond Microsecond = 1000000
per_nanosecond Nanosecond = 1000000000

-- a stamp, whose factor is in billionths
abbrev pub stamped : StampUnit → ℕ → Option ℕ → Option ℕ
stamped unit factor None = None
stamped unit factor (Some stamp) = below_2_64 (stamp * factor / per_nanosecond unit)

-- there is no rate: each sample has its stamp
abbrev pub is_stamped : List Rate → Bool
is_stamped [] = true
is_stamped (rate ∷ rates) = rate.microhertz == 0

-- with rates the first sample, number 1, is at 0
abbrev pub time_of : ConfigValues → ℕ → Option ℕ → Option ℕ
time_of c number stamp =
    if is_stamped c.sampling.rates then stamped c.unit c.factor stamp
    else rated c.sampling.rates 0 1 number

-- a stamp is there, or none is needed
abbrev pub has_time : ConfigValues → Option ℕ → Bool
has_time c None = not (is_stamped c.sampling.rates)
has_time c (Some stamp) = true
