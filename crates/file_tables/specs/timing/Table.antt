-- A table of steps: a place for each parameter and tick.
use Rattle.std.specs.Prelude.{◌+◌, ◌*◌, ◌/◌, ◌%◌, ℕ, suc, List, [], ◌∷◌, Option, None, Some}
use Rattle.model_timing.specs.declared.step.Step.{Step}

-- the place of a parameter and a tick: 4,096 for each parameter
abbrev pub place_of : ℕ → ℕ → ℕ
place_of param from = param * 4096 + from

-- the step that a value at a place is
abbrev pub step_of : ℕ → ℕ → Step ℕ
step_of place value = record { param = place / 4096; from = place % 4096; value = value }

-- the steps of a table, in the order of their places, the first of which is this one
abbrev pub listed : ℕ → List (Option ℕ) → List (Step ℕ)
listed place [] = []
listed place (None ∷ rest) = listed (suc place) rest
listed place (Some value ∷ rest) = step_of place value ∷ listed (suc place) rest
