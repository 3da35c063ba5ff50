-- The scripts of a fault, as one group of a list of scripts.
use Rattle.std.specs.Prelude.{ℕ, zero, suc, ◌+◌, List, [], ◌∷◌, length, map, nat_lt, unwrap_or}
use Rattle.std.specs.Prelude.{if◌then◌else◌}
use Rattle.model_line.specs.declared.script.Script.{Script}
use Rattle.file_tables.specs.script.Values.{ScriptValues}
use Rattle.file_study.specs.study.Faults.{FaultValues}
use Rattle.file_study.specs.sweeps.Choices.{ChoiceValues, choice_of}
use Rattle.file_study.specs.sweeps.Sweeps.{count_of, scripts_of, times_of}
use Rattle.file_study.specs.declared.sweeps.group.Group.{Group}

-- A group: the fault's name, and for each of its scripts the values of its swept times, in ticks.
pub record GroupValues : Type 0 where
  pub name : List ℕ
  pub swept : List (List ℕ)

abbrev pub group_values : Group → GroupValues
group_values g = record { name = g.name; swept = map (λ v. v.items) g.swept.items }

-- a script that is a fault of its own
abbrev pub single_group : Script → GroupValues
single_group s = record { name = s.name; swept = [] ∷ [] }

-- the values of a choice: its start, by when it has to be tripped, and how long each stage lasts
abbrev pub values_in : ChoiceValues → List ℕ
values_in c = c.start ∷ c.within ∷ c.lasts

-- of these values those whose time is swept: it has more than one value
abbrev pub of_swept : List (List ℕ) → List ℕ → List ℕ
of_swept [] values = []
of_swept (time ∷ times) [] = []
of_swept (time ∷ times) (value ∷ values) =
    if nat_lt 1 (length time) then value ∷ of_swept times values else of_swept times values

-- the swept values of choice k
abbrev pub swept_at : FaultValues → ℕ → List ℕ
swept_at f k = of_swept (times_of f) (values_in (choice_of f k))

-- those of n choices from choice k on
abbrev pub swept_from : FaultValues → ℕ → ℕ → List (List ℕ)
swept_from f k zero = []
swept_from f k (suc n) = swept_at f k ∷ swept_from f (k + 1) n

-- the group of a fault's scripts
abbrev pub group_of : FaultValues → GroupValues
group_of f = record { name = f.name; swept = swept_from f 0 (unwrap_or (count_of f) 0) }

-- the scripts of a fault; none where there are more than 4,096
abbrev pub own_scripts : FaultValues → List ScriptValues
own_scripts f = unwrap_or (scripts_of f) []
