-- Waves tick by tick, and as runs.
use Rattle.std.specs.Prelude.{◌≡◌, ◌≢◌, ℕ, ◌+◌, ◌-◌, ◌<◌, ◌≤◌, List, [], ◌∷◌, length, replicate}
use Rattle.std.specs.Prelude.{Bool, map, slice_get, get_or, Some, ◌⊎◌}
use Rattle.std.specs.List.{flat_map}
use Rattle.model_history.specs.Rails.{Rails, rails_at}
use Rattle.run_signal.specs.{declared.tern.Tern.Tern, Terns.tern_rails}
use Rattle.run_waves.specs.{declared.waves.runs.Run.Run, declared.waves.runs.Stretch.Stretch}

abbrev pub run_of : Tern → ℕ → Run
run_of level ticks = record { level = level; ticks = ticks }

-- the values of a run, tick by tick
abbrev pub ticks_of : Run → List Tern
ticks_of run = replicate run.ticks run.level

-- the values of the runs, one run after another
abbrev pub levels_of : List Run → List Tern
levels_of runs = flat_map ticks_of runs

-- the runs that end at these ticks, one after another, the first from that tick on
abbrev pub runs_from : ℕ → List Stretch → List Run
runs_from from [] = []
runs_from from (stretch ∷ stretches) =
    run_of stretch.level (stretch.end - from) ∷ runs_from stretch.end stretches

-- each run has a tick at least, and the next run another value
abbrev pub AreApart : List Run → Type 0
AreApart [] = Unit {0}
AreApart (run ∷ []) = 1 ≤ run.ticks
AreApart (run ∷ next ∷ runs) =
    (1 ≤ run.ticks) × (run.level ≢ next.level) × AreApart (next ∷ runs)

-- they are the runs of a wave of so many ticks
pub record AreRunsOf (runs : List Run) (len : ℕ) : Type 0 where
  pub apart : AreApart runs
  pub long : len ≡ length (levels_of runs)
  pub short : len ≤ 4000

-- the wave has this value from tick `from` on until tick `end`
abbrev pub HasThroughout : List Tern → Tern → ℕ → ℕ → Type 0
HasThroughout wave level from end = (k : ℕ) → from ≤ k → k < end → slice_get wave k ≡ Some level

-- the run at place i is the one at tick t: it ends after the tick, and no run before it does
pub record IsRunAt (stretches : List Stretch) (t i : ℕ) : Type 0 where
  pub there : i < length stretches
  pub later : (d : Stretch) → t < (get_or stretches i d).end
  pub past : (d : Stretch) (j : ℕ) → j < i → (get_or stretches j d).end ≤ t

-- ---- the rails of a wave

-- the rails at a tick; off outside
abbrev pub wave_at : List Tern → ℕ → Rails
wave_at wave t = rails_at (map tern_rails wave) t

-- the wave of so many ticks whose rails at each tick are these
pub record IsWaveOf (wave : List Tern) (len : ℕ) (value : ℕ → Rails) : Type 0 where
  pub long : length wave ≡ len
  pub values : (t : ℕ) → t < len → wave_at wave t ≡ value t

-- so many waves, each of so many ticks
pub record AreWaves (count ticks : ℕ) (waves : List (List Tern)) : Type 0 where
  pub many : length waves ≡ count
  pub long : (k : ℕ) → k < count → length (get_or waves k []) ≡ ticks

-- `end` is the greatest tick up to `last` such that the values from tick t to `end` - 1 are equal
pub record IsSameUntil (value : ℕ → Rails) (t last end : ℕ) : Type 0 where
  pub later : t < end
  pub limited : end ≤ last
  pub same : (k : ℕ) → t ≤ k → k < end → value k ≡ value t
  pub greatest : (m : ℕ) → t < m → m ≤ last → ((k : ℕ) → t ≤ k → k < m → value k ≡ value t)
      → m ≤ end

-- after exactly this delay the same arrives at each tick from t on until `end`: nothing, or what
-- the history was at t - delay
pub record ArrivesAlike {A : Type 0} (u : ℕ → A) (delay t end : ℕ) : Type 0 where
  pub shut : t < delay → end ≤ delay
  pub passes : delay ≤ t → (r : ℕ) → t ≤ r + delay → r + delay < end → u r ≡ u (t - delay)

-- ---- what is said of any value by its rails

-- a test of values tells this of their rails
abbrev pub Tells : (Tern → Bool → Type 0) → (Rails → Bool) → Type 0
Tells answers rail = (x : Tern) (on : Bool) → answers x on → on ≡ rail (tern_rails x)

-- an operation on values does this with their rails
abbrev pub Combines : (Tern → Tern → Tern → Type 0) → (Rails → Rails → Rails) → Type 0
Combines answers op =
    (x y z : Tern) → answers x y z → tern_rails z ≡ op (tern_rails x) (tern_rails y)

-- a value decides alone what the operation answers
abbrev pub Decides : (Rails → Rails → Rails) → Tern → Type 0
Decides op level = (x : Rails) → (op (tern_rails level) x ≡ tern_rails level)
    × (op x (tern_rails level) ≡ tern_rails level)

-- at tick k both runs go on, or one that decides alone does
abbrev pub IsDecided : Stretch → Stretch → Tern → ℕ → Type 0
IsDecided first second decides k =
    ((k < first.end) × (k < second.end))
    ⊎ (((k < first.end) × (first.level ≡ decides)) ⊎ ((k < second.end) × (second.level ≡ decides)))

-- a value leaves the answer to the other argument
abbrev pub Leaves : (Rails → Rails → Rails) → Tern → Type 0
Leaves op level = (x : Rails) → (op (tern_rails level) x ≡ x) × (op x (tern_rails level) ≡ x)

-- so many answers in each lane, one at least, are like the first
pub record StaysSteady (lanes : ℕ) (answer : ℕ → ℕ → Rails) (n : ℕ) : Type 0 where
  pub some : 1 ≤ n
  pub same : (lane k : ℕ) → lane < lanes → k < n → answer lane k ≡ answer lane 0
