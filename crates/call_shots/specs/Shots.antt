-- Which script of a fault is played for a terminal: its shot.
use Rattle.std.specs.Prelude.{◌+◌, ◌*◌, ◌++◌, ℕ, zero, suc, List, [], ◌∷◌, Option, None, Some}
use Rattle.std.specs.Prelude.{drop, slice_get, take}
use Rattle.std.specs.List.{cons_option, position}
use Rattle.model_line.specs.{declared.line.Line.Line, declared.script.Script.Script}
use Rattle.model_line.specs.Parameters.{terminal_count}
use Rattle.file_study.specs.declared.sweeps.group.Group.{Group}
use Rattle.call_verdicts.specs.Faults.{findings_of, verdicts_at}
use Rattle.call_verdicts.specs.Verdicts.{fails_so, is_left}
use Rattle.call_verdicts.specs.Worst.{worst_place}
use Rattle.call_verdicts.specs.declared.finding.Finding.{Finding}
use Rattle.call_verdicts.specs.declared.verdict.Verdict.{Verdict}

-- a place, where there is one; else another
abbrev pub place_or : Option ℕ → ℕ → ℕ
place_or None other = other
place_or (Some place) other = place

-- the first that fails; where none does the first that is open, and where none is the one with the
-- least margin
abbrev pub shot_place : ℕ → List Verdict → ℕ
shot_place horizon vs =
    place_or (position (λ v. fails_so v.standing) vs)
    (place_or (position (λ v. is_left v.standing) vs) (worst_place horizon vs))

-- of the findings of a fault, script by script and in each its terminals, that of this place at
-- terminal k
abbrev pub shot_of : Line → List Script → List Finding → ℕ → Option Finding
shot_of line scripts found k =
    slice_get found (shot_place line.horizon (verdicts_at scripts k found) * terminal_count line + k)

-- those of a fault at the first n terminals
abbrev pub fault_shots : Line → List Script → List Finding → ℕ → List Finding
fault_shots line scripts found zero = []
fault_shots line scripts found (suc n) =
    fault_shots line scripts found n ++ cons_option (shot_of line scripts found n) []

-- those of faults whose findings stand one after another
abbrev pub shots_from : Line → List Script → List Group → List Finding → List Finding
shots_from line scripts [] found = []
shots_from line scripts (group ∷ more) found =
    fault_shots line scripts (take (findings_of line group) found) (terminal_count line)
    ++ shots_from line scripts more (drop (findings_of line group) found)
