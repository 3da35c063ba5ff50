-- The sample that holds at each tick.
use Rattle.std.specs.Prelude.{◌≡◌, ◌≤◌, ◌<◌, ◌+◌, ◌-◌, ◌*◌, ℕ, List, length, slice_index, Option}
use Rattle.std.specs.Prelude.{Some, None}
use Rattle.file_comtrade.specs.declared.ticks.Ticks.{Ticks}
use Rattle.file_comtrade.specs.declared.ticks.TickFault.{TickFault}

-- the last sample that is not after an instant, by the samples' times; both are counted from one
-- origin
pub record IsHolding (times : List ℕ) (instant i : ℕ) : Type 0 where
  pub inside : i < length times
  pub begun : slice_index times i ≤ instant
  pub last : i + 1 < length times → instant < slice_index times (i + 1)

-- the first instant of a tick
abbrev pub instant_of : Ticks → ℕ → ℕ
instant_of ticks t = ticks.start + t * ticks.tick

-- the instants of the first and of the last sample
abbrev pub first_instant : ℕ → List ℕ → ℕ
first_instant origin times = origin + slice_index times 0

abbrev pub last_instant : ℕ → List ℕ → ℕ
last_instant origin times = origin + slice_index times (length times - 1)

-- every tick is at or after the first sample, and at or before the last
pub record IsCovered (origin : ℕ) (times : List ℕ) (ticks : Ticks) : Type 0 where
  pub begins : first_instant origin times ≤ ticks.start
  pub ends : instant_of ticks (ticks.count - 1) ≤ last_instant origin times

-- a sample for each tick
pub record AreAtTicks (origin : ℕ) (times : List ℕ) (ticks : Ticks) (at : List ℕ) : Type 0 where
  pub covered : IsCovered origin times ticks
  pub many : length at ≡ ticks.count
  pub each : (t : ℕ) → t < ticks.count
      → IsHolding times (instant_of ticks t - origin) (slice_index at t)

-- the first tick that is not before the first sample
pub record IsFirstTick (origin : ℕ) (times : List ℕ) (ticks : Ticks) (t : ℕ) : Type 0 where
  pub begun : first_instant origin times ≤ instant_of ticks t
  pub first : 0 < t → instant_of ticks (t - 1) < first_instant origin times

-- the last tick that is not after the last sample, if there is one
abbrev pub IsLastTick : ℕ → List ℕ → Ticks → Option ℕ → Type 0
IsLastTick origin times ticks None = last_instant origin times < ticks.start
IsLastTick origin times ticks (Some t) =
    (instant_of ticks t ≤ last_instant origin times)
    × (last_instant origin times < instant_of ticks (t + 1))

-- not each tick has a sample; those that have are from one to another, if any has
abbrev pub IsTickFault : ℕ → List ℕ → Ticks → TickFault → Type 0
IsTickFault origin times ticks f =
    (¬ IsCovered origin times ticks) × IsFirstTick origin times ticks f.from
    × IsLastTick origin times ticks f.to
