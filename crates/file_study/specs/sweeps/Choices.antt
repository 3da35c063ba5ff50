-- The choices of the swept times of a fault.
use Rattle.std.specs.Prelude.{◌+◌, ◌/◌, ◌%◌, ℕ, List, [], ◌∷◌, length, get_or, sum, max}
use Rattle.file_study.specs.study.Faults.{FaultValues, StageValues}
use Rattle.file_study.specs.declared.sweeps.choice.Choice.{Choice}

-- One value of each time of a fault, in ticks: its start, by when it has to be tripped, counted
-- from its start, and how long each stage lasts.
pub record ChoiceValues : Type 0 where
  pub start : ℕ
  pub within : ℕ
  pub lasts : List ℕ

abbrev pub choice_values : Choice → ChoiceValues
choice_values c = record { start = c.start; within = c.within; lasts = c.lasts.items }

-- value k of a time, counted round
abbrev pub value_at : List ℕ → ℕ → ℕ
value_at time k = get_or time (k % length time) 0

-- the values of the stages' times; the first goes through its values fastest
abbrev pub lasts_at : List StageValues → ℕ → List ℕ
lasts_at [] k = []
lasts_at (s ∷ ss) k = value_at s.lasts k ∷ lasts_at ss (k / length s.lasts)

-- Choice k, counted from 0. The start goes through its values fastest, then `trip_within`, then the
-- stages, the first of them first.
abbrev pub choice_of : FaultValues → ℕ → ChoiceValues
choice_of f k = record {
  start = value_at f.start k;
  within = value_at f.trip_within (k / length f.start);
  lasts = lasts_at f.stages (k / length f.start / length f.trip_within);
}

-- the horizon that a choice needs: its last stage ends there at the latest, and its deadline, or
-- the start of an external fault, is before
abbrev pub horizon_for : ChoiceValues → ℕ
horizon_for c = max (c.start + sum c.lasts) (c.start + c.within + 1)
