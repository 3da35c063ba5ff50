-- What is suspicious in the swept times of the faults of a study.
use Rattle.std.specs.Prelude.{◌+◌, ◌-◌, ◌++◌, ℕ, Bool, List, [], ◌∷◌, get_or, length, nat_le, not}
use Rattle.model_history.specs.Elements.{every_below}
use Rattle.file_study.specs.study.Faults.{FaultValues, StageValues}
use Rattle.call_lint.specs.declared.warnings.warning.Warning.{Warning}
use Rattle.call_lint.specs.declared.warnings.warning.Warning.TheVariants.{Coarse}
use Rattle.call_lint.specs.declared.warnings.warning.SweptTime.TheVariants.{Start, TripWithin, Lasts}
use Rattle.call_lint.specs.{warnings.Listed.told_if}

-- no tick lies between value k of a time and the one behind it
abbrev pub is_near : List ℕ → ℕ → Bool
is_near time k = nat_le (get_or time (k + 1) 0) (get_or time k 0 + 1)

-- somewhere a tick lies between two
abbrev pub is_coarse : List ℕ → Bool
is_coarse time = not (every_below (is_near time) (length time - 1))

-- of the stages of fault i, from stage s on
unfoldable pub stage_sweeps : ℕ → ℕ → List StageValues → List Warning
stage_sweeps i s [] = []
stage_sweeps i s (stage ∷ stages) =
    told_if (is_coarse stage.lasts) (Coarse i (Lasts s)) ++ stage_sweeps i (s + 1) stages

-- of fault i
abbrev pub fault_sweeps : ℕ → FaultValues → List Warning
fault_sweeps i f =
    told_if (is_coarse f.start) (Coarse i Start) ++ told_if (is_coarse f.trip_within) (Coarse i TripWithin)
    ++ stage_sweeps i 0 f.stages

-- of the faults from fault i on
unfoldable pub sweep_warnings : ℕ → List FaultValues → List Warning
sweep_warnings i [] = []
sweep_warnings i (f ∷ fs) = fault_sweeps i f ++ sweep_warnings (i + 1) fs
