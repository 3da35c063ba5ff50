-- A fault where each time that is not known is a number of ticks.
use Rattle.std.specs.Prelude.{◌≡◌, ◌+◌, ℕ, false, List, [], ◌∷◌, if◌then◌else◌}
use Rattle.model_line.specs.Seen.{is_seen, is_lost}
use Rattle.model_line.specs.declared.script.Place.{Place}
use Rattle.model_fine.specs.Loose.{Shown}
use Rattle.file_tables.specs.script.Values.{ScriptValues}
use Rattle.file_study.specs.study.Faults.{FaultValues, StageValues}
use Rattle.file_study.specs.sweeps.{Choices.choice_of, Scripts.script_of}

-- the stages; those that last for an interval last for time i, the next of them for the next
abbrev pub exact_stages : (ℕ → ℕ) → ℕ → List StageValues → List StageValues
exact_stages x i [] = []
exact_stages x i (s ∷ stages) =
    if s.between then record { lasts = x i ∷ []; between = false; shows = s.shows } ∷ exact_stages x (i + 1) stages
    else s ∷ exact_stages x i stages

-- the fault of a study in which they are so written
abbrev pub exact_fault : (ℕ → ℕ) → FaultValues → FaultValues
exact_fault x f = record f { stages = exact_stages x 0 f.stages }

-- the script that it comes to
abbrev pub exact_script : (ℕ → ℕ) → FaultValues → ScriptValues
exact_script x f = script_of f.name (exact_fault x f) (choice_of (exact_fault x f) 0)

-- each element is seen and each channel lost at the same ticks as in a script
pub record IsShownBy (script : ScriptValues) (shown : Shown) : Type 0 where
  pub seen : (p : Place) (t : ℕ) → shown.seen p t ≡ is_seen script.spans p t
  pub lost : (c t : ℕ) → shown.lost c t ≡ is_lost script.spans c t
