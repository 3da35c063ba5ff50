-- What the text of a time says, word by word. A text is refused for the first word that cannot
-- stand where it does.
use Rattle.std.specs.Prelude.{◌+◌, ◌==◌, ◌&&◌, ◌<◌, ◌^◌, ℕ, Bool, List, Option, Result, Ok, Err}
use Rattle.std.specs.Prelude.{if◌then◌else◌}
use Rattle.base_memory.specs.Gives.{◌>>=◌}
use Rattle.file_document.specs.declared.time_fault.TimeFault.{TimeFault}
use Rattle.file_document.specs.declared.time_fault.TimeFault.TheVariants as fault
use Rattle.file_study.specs.declared.times.fraction.Fraction.{Fraction}
use Rattle.file_study.specs.declared.times.time.{Interval.Interval, Sweep.Sweep, Time.Time}
use Rattle.file_study.specs.declared.times.time.Time.TheVariants as time
use Rattle.file_study.specs.declared.times.word.Sign.{Sign}
use Rattle.file_study.specs.declared.times.word.Sign.TheVariants as sign
use Rattle.file_study.specs.times.Fractions.{times, plus, less, is_at_most, IsAtMost, IsOfSize}
use Rattle.file_study.specs.times.Numbers.{number_in}
use Rattle.file_study.specs.times.Units.{whole, unit_in}
use Rattle.file_study.specs.times.Words.{place_of, word_of, sign_at}

-- ---- a number, a unit, a value

-- the number that word k is
abbrev pub number_at : List ℕ → ℕ → Result Fraction TimeFault
number_at text k = number_in (place_of text k) (word_of text k)

-- one of the unit that word k is, in microseconds
abbrev pub unit_at : Option ℕ → List ℕ → ℕ → Result Fraction TimeFault
unit_at hertz text k = unit_in (place_of text k) hertz (word_of text k)

-- so many of the unit that word k is
abbrev pub measured_at : Option ℕ → List ℕ → Fraction → ℕ → Result Fraction TimeFault
measured_at hertz text number k = do
  one ← unit_at hertz text k
  Ok (times number one)

-- a number at word k, and its unit behind it
abbrev pub value_at : Option ℕ → List ℕ → ℕ → Result Fraction TimeFault
value_at hertz text k = do
  number ← number_at text k
  measured_at hertz text number (k + 1)

-- the time, if the text ends at word k
abbrev pub closed_at : List ℕ → ℕ → Sign → Time → Result Time TimeFault
closed_at text k sign.End read = Ok read
closed_at text k found read = Err (fault.Surplus (place_of text k))

abbrev pub closed : List ℕ → ℕ → Time → Result Time TimeFault
closed text k read = closed_at text k (sign_at text k) read

abbrev pub interval : Fraction → Fraction → Time
interval least greatest = time.Interval (record { least = least; greatest = greatest })

-- both ends are one time
abbrev pub is_instant : Interval → Bool
is_instant ends =
    (ends.least.over == ends.greatest.over) && (ends.least.under == ends.greatest.under)

-- ---- a tolerance

-- a share in percent
abbrev pub percent : Fraction → Fraction
percent number = times number (record { over = 1; under = 100 })

-- the value, less and more its share and the margin
abbrev pub tolerated : Fraction → Fraction → Fraction → Time
tolerated value share margin =
    interval (less (times value (less (whole 1) share)) margin)
    (plus (times value (plus (whole 1) share)) margin)

-- behind a share: nothing, or a margin
abbrev pub behind_share : Option ℕ → List ℕ → Fraction → Fraction → Sign → Result Time TimeFault
behind_share hertz text value share sign.PlusMinus = do
  margin ← value_at hertz text 6
  closed text 8 (tolerated value share margin)
behind_share hertz text value share found = closed_at text 5 found (tolerated value share (whole 0))

-- behind the number of a tolerance: a percent sign, or a unit
abbrev pub behind_tolerance : Option ℕ → List ℕ → Fraction → Fraction → Sign
    → Result Time TimeFault
behind_tolerance hertz text value number sign.Percent =
    behind_share hertz text value (percent number) (sign_at text 5)
behind_tolerance hertz text value number found = do
  margin ← measured_at hertz text number 4
  closed text 5 (tolerated value (whole 0) margin)

-- ---- an interval, a sweep

-- a sweep by this step, which is at word k and is not 0
abbrev pub stepped : List ℕ → Fraction → Fraction → ℕ → Fraction → Result Time TimeFault
stepped text first last k step =
    if step.over == 0 then Err (fault.NoStep (place_of text k))
    else closed text (k + 2) (time.Sweep (record { first = first; last = last; step = step }))

-- behind the ends of an interval, at word k: nothing, or a step
abbrev pub behind_ends : Option ℕ → List ℕ → Fraction → Fraction → ℕ → Sign → Result Time TimeFault
behind_ends hertz text first last k sign.By = do
  step ← value_at hertz text (k + 1)
  stepped text first last (k + 1) step
behind_ends hertz text first last k found = closed_at text k found (interval first last)

-- two ends, of which the second is at word k
abbrev pub ends_at : Option ℕ → List ℕ → Fraction → Fraction → ℕ → Result Time TimeFault
ends_at hertz text first last k =
    if is_at_most first last
    then behind_ends hertz text first last (k + 2) (sign_at text (k + 2))
    else Err (fault.Order (place_of text k))

-- ---- a whole text

-- behind a number with its unit: nothing, a second end, or a tolerance
abbrev pub behind_value : Option ℕ → List ℕ → Fraction → Sign → Result Time TimeFault
behind_value hertz text value sign.To = do
  last ← value_at hertz text 3
  ends_at hertz text value last 3
behind_value hertz text value sign.PlusMinus = do
  number ← number_at text 3
  behind_tolerance hertz text value number (sign_at text 4)
behind_value hertz text value found = closed_at text 2 found (interval value value)

-- Behind the first number: a second end, whose unit both have, or a unit.
abbrev pub behind_number : Option ℕ → List ℕ → Fraction → Sign → Result Time TimeFault
behind_number hertz text number sign.To = do
  last ← number_at text 2
  one ← unit_at hertz text 3
  ends_at hertz text (times number one) (times last one) 2
behind_number hertz text number found = do
  value ← measured_at hertz text number 1
  behind_value hertz text value (sign_at text 2)

-- the first word: a number, and no tolerance before it
abbrev pub first_number : List ℕ → Sign → Result Fraction TimeFault
first_number text sign.PlusMinus = Err (fault.NoValue (place_of text 0))
first_number text found = number_at text 0

-- what a text says, where the system has so many hertz
abbrev pub time_of : Option ℕ → List ℕ → Result Time TimeFault
time_of hertz text = do
  number ← first_number text (sign_at text 0)
  behind_number hertz text number (sign_at text 1)

-- ---- what holds of each time that is read

-- an end of an interval
abbrev pub IsEnd : Fraction → Type 0
IsEnd = IsOfSize (10 ^ 37) (10 ^ 32)

-- a number with its unit
abbrev pub IsMeasured : Fraction → Type 0
IsMeasured = IsOfSize (10 ^ 15) (10 ^ 11)

-- a sweep whose step is not 0
abbrev pub IsSwept : Sweep → Type 0
IsSwept sweep =
    IsMeasured sweep.first × IsMeasured sweep.last × IsMeasured sweep.step × (0 < sweep.step.over)

-- its fractions are not too large to work with, and its ends are in order
abbrev pub IsReadable : Time → Type 0
IsReadable (time.Interval ends) =
    IsEnd ends.least × IsEnd ends.greatest × IsAtMost ends.least ends.greatest
IsReadable (time.Sweep sweep) = IsSwept sweep × IsAtMost sweep.first sweep.last
