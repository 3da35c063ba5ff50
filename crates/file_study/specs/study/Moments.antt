-- Times of a study in ticks: intervals, instants, and the values of a sweep.
use Rattle.std.specs.Prelude.{◌+◌, ◌++◌, ◌&&◌, ℕ, zero, suc, Bool, true, false, not, List, [], ◌∷◌}
use Rattle.std.specs.Prelude.{Result, Ok, Err, if◌then◌else◌, nat_le}
use Rattle.file_study.specs.declared.times.fraction.Fraction.{Fraction}
use Rattle.file_document.specs.declared.time_fault.TimeFault.{TimeFault}
use Rattle.file_study.specs.declared.times.time.{Sweep.Sweep, Time.Time, Interval.Interval}
use Rattle.file_study.specs.declared.times.time.Time.TheVariants as time
use Rattle.file_study.specs.{times.Times.is_instant, times.Times.time_of, times.Sweeps.value_of, times.Fractions.is_at_most}
use Rattle.model_line.specs.declared.bounds.Bounds.{Bounds}
use Rattle.base_memory.specs.Gives.{◌>>=◌}
use Rattle.file_document.specs.declared.fault.DocumentFault.{DocumentFault}
use Rattle.file_document.specs.declared.fault.DocumentFault.TheVariants as fault
use Rattle.file_study.specs.declared.study.units.Units.{Units}
use Rattle.file_study.specs.declared.study.ticks.Lasting.{Lasting as Declared}
use Rattle.file_study.specs.study.Rounding.{down, up, rounded}

-- what the text of a time says, at a path
abbrev pub told : List ℕ → Result Time TimeFault → Result Time DocumentFault
told path (Ok said) = Ok said
told path (Err why) = Err (fault.BadTime path why)

-- at most 4,000 ticks
abbrev pub limited : List ℕ → ℕ → Result ℕ DocumentFault
limited path n = if nat_le n 4000 then Ok n else Err (fault.Range path)

-- an interval in ticks, rounded outward
abbrev pub bounds_in : ℕ → List ℕ → Time → Result Bounds DocumentFault
bounds_in tick_us path (time.Interval ends) = do
  least ← limited path (down tick_us ends.least)
  greatest ← limited path (up tick_us ends.greatest)
  Ok (record { least = least; greatest = greatest })
bounds_in tick_us path (time.Sweep sweep) = Err (fault.Swept path)

unfoldable pub bounds_of : Units → List ℕ → List ℕ → Result Bounds DocumentFault
bounds_of units path text = told path (time_of units.hertz text) >>= bounds_in units.tick_us path

-- an instant in ticks, rounded up or down
abbrev pub instant_at : Bool → ℕ → List ℕ → Interval → Result ℕ DocumentFault
instant_at upward tick_us path ends =
    if is_instant ends then limited path (rounded upward tick_us ends.least)
    else Err (fault.NoInstant path)

abbrev pub instant_in : Bool → ℕ → List ℕ → Time → Result ℕ DocumentFault
instant_in upward tick_us path (time.Interval ends) = instant_at upward tick_us path ends
instant_in upward tick_us path (time.Sweep sweep) = Err (fault.Swept path)

unfoldable pub instant_of : Bool → Units → List ℕ → List ℕ → Result ℕ DocumentFault
instant_of upward units path text =
    told path (time_of units.hertz text) >>= instant_in upward units.tick_us path

-- The values of a sweep from value i on, as long as the last is not passed; n of them at most.
unfoldable pub values_from : Sweep → ℕ → ℕ → List Fraction
values_from sweep i zero = []
values_from sweep i (suc n) =
    if is_at_most (value_of sweep i) sweep.last then value_of sweep i ∷ values_from sweep (i + 1) n
    else []

-- each of them in ticks, behind those that are there
unfoldable pub all_limited : Bool → ℕ → List ℕ → List Fraction → List ℕ → Result (List ℕ) DocumentFault
all_limited upward tick_us path [] done = Ok done
all_limited upward tick_us path (a ∷ more) done = do
  n ← limited path (rounded upward tick_us a)
  all_limited upward tick_us path more (done ++ n ∷ [])

-- a sweep has at most 1,000 values
unfoldable pub swept_in : Bool → ℕ → List ℕ → Sweep → Result (List ℕ) DocumentFault
swept_in upward tick_us path sweep =
    if is_at_most (value_of sweep 1000) sweep.last then Err (fault.TooMany path)
    else all_limited upward tick_us path (values_from sweep 0 1000) []

-- a time of a fault: an instant, or the values of a sweep
abbrev pub moments_in : Bool → ℕ → List ℕ → Time → Result (List ℕ) DocumentFault
moments_in upward tick_us path (time.Interval ends) = do
  n ← instant_at upward tick_us path ends
  Ok (n ∷ [])
moments_in upward tick_us path (time.Sweep sweep) = swept_in upward tick_us path sweep

-- How long a stage lasts: numbers of ticks, one for each value of its sweep; or an interval, by its ends,
-- where it lasts for any time between.
pub record Lasting : Type 0 where
  pub ticks : List ℕ
  pub between : Bool

abbrev pub lasts_values : Declared → Lasting
lasts_values l = record { ticks = l.ticks.items; between = l.between }

-- an interval, by its ends
abbrev pub between_of : Bounds → Lasting
between_of ends = record { ticks = ends.least ∷ ends.greatest ∷ []; between = true }

abbrev pub exactly : List ℕ → Lasting
exactly ticks = record { ticks = ticks; between = false }

-- an instant, the values of a sweep, or where it may be one an interval, rounded outward
abbrev pub lasts_in : Bool → Bool → ℕ → List ℕ → Time → Result Lasting DocumentFault
lasts_in loose upward tick_us path (time.Interval ends) =
    if loose && not (is_instant ends)
    then (bounds_in tick_us path (time.Interval ends) >>= λ bounds. Ok (between_of bounds))
    else (instant_at upward tick_us path ends >>= λ n. Ok (exactly (n ∷ [])))
lasts_in loose upward tick_us path (time.Sweep sweep) =
    swept_in upward tick_us path sweep >>= λ values. Ok (exactly values)

unfoldable pub lasts_of : Bool → Bool → Units → List ℕ → List ℕ → Result Lasting DocumentFault
lasts_of loose upward units path text =
    told path (time_of units.hertz text) >>= lasts_in loose upward units.tick_us path

unfoldable pub moments_of : Bool → Units → List ℕ → List ℕ → Result (List ℕ) DocumentFault
moments_of upward units path text =
    told path (time_of units.hertz text) >>= moments_in upward units.tick_us path
