-- The instants of the Gregorian calendar, in nanoseconds from the start of the year 0.
use Rattle.std.specs.Prelude.{◌&&◌, ◌||◌, ◌==◌, ◌+◌, ◌-◌, ◌*◌, ◌/◌, ◌%◌, ℕ, Bool, not, nat_le, nat_lt}
use Rattle.std.specs.Prelude.{List, Option, Some, None, if◌then◌else◌}
use Rattle.file_comtrade.specs.{Number.natural_of, Number.plain_of, Number.decimals_of}
use Rattle.file_comtrade.specs.{Options.◌>>=◌, Text.cut_at}
use Rattle.file_comtrade.specs.declared.config.DateOrder.{DateOrder}
use Rattle.file_comtrade.specs.declared.config.DateOrder.TheVariants.{DayFirst, MonthFirst}

abbrev pub is_leap : ℕ → Bool
is_leap year = (year % 4 == 0) && (not (year % 100 == 0) || (year % 400 == 0))

abbrev pub days_in_month : ℕ → ℕ → ℕ
days_in_month year month =
    if month == 2 then (if is_leap year then 29 else 28)
    else if (month == 4) || (month == 6) || (month == 9) || (month == 11) then 30
    else 31

-- the days of the months before this one, in a year that is not leap
abbrev pub days_before_month : ℕ → ℕ
days_before_month month =
    if month == 1 then 0 else if month == 2 then 31 else if month == 3 then 59
    else if month == 4 then 90 else if month == 5 then 120 else if month == 6 then 151
    else if month == 7 then 181 else if month == 8 then 212 else if month == 9 then 243
    else if month == 10 then 273 else if month == 11 then 304 else 334

-- the day's number; 1 January of the year 0 has the number 0. Of the years before this one each
-- fourth is leap, from the year 0 on, but of the hundredth ones only each fourth
unfoldable pub day_number : ℕ → ℕ → ℕ → ℕ
day_number year month day =
    (365 * year + (year + 3) / 4 + (year + 399) / 400) - (year + 99) / 100
    + days_before_month month + (if is_leap year && nat_lt 2 month then 1 else 0) + (day - 1)

-- a day of the years 0 to 9999
abbrev pub is_day : ℕ → ℕ → ℕ → Bool
is_day year month day =
    nat_le year 9999 && nat_le 1 month && nat_le month 12 && nat_le 1 day
    && nat_le day (days_in_month year month)

unfoldable pub checked_day : ℕ → ℕ → ℕ → Option ℕ
checked_day year month day =
    if is_day year month day then Some (day_number year month day) else None

-- two digits of a year stand for one of 1980 to 2079
abbrev pub full_year : ℕ → ℕ
full_year year =
    if nat_lt year 80 then 2000 + year else if nat_lt year 100 then 1900 + year else year

abbrev pub day_in_order : DateOrder → ℕ → ℕ → ℕ → Option ℕ
day_in_order DayFirst a b year = checked_day (full_year year) b a
day_in_order MonthFirst a b year = checked_day (full_year year) a b

-- dd/mm/yyyy, or mm/dd/yyyy; the year may have two digits
unfoldable pub day_of : DateOrder → List ℕ → Option ℕ
day_of order date = do
  front ← cut_at 47 date
  back ← cut_at 47 front.1
  a ← natural_of front.0
  b ← natural_of back.0
  year ← natural_of back.1
  day_in_order order a b year

abbrev pub clock_at : ℕ → ℕ → ℕ → Option ℕ
clock_at hour minute nanos =
    if nat_lt hour 24 && nat_lt minute 60 && nat_lt nanos 60000000000
    then Some ((hour * 60 + minute) * 60000000000 + nanos) else None

-- seconds with up to nine decimals, in nanoseconds
unfoldable pub seconds_of : List ℕ → Option ℕ
seconds_of text = if nat_le (decimals_of text) 9 then plain_of 9 text else None

-- hh:mm:ss with decimals, in nanoseconds
unfoldable pub clock_of : List ℕ → Option ℕ
clock_of time = do
  front ← cut_at 58 time
  back ← cut_at 58 front.1
  hour ← natural_of front.0
  minute ← natural_of back.0
  nanos ← seconds_of back.1
  clock_at hour minute nanos

-- the instant of a date and a time
unfoldable pub moment_of : DateOrder → List ℕ → List ℕ → Option ℕ
moment_of order date time = do
  day ← day_of order date
  nanos ← clock_of time
  Some (day * 86400000000000 + nanos)
