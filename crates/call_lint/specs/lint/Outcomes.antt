-- What lint finds, and its exit status.
use Rattle.std.specs.Prelude.{◌≡◌, ◌⊎◌, ◌++◌, ℕ, List, [], ◌∷◌, Ok, IsErr, map, ⊤}
use Rattle.file_line.specs.{Lines.line_values, LineFiles.line_of}
use Rattle.file_tables.specs.{script.Values.values_of, script.Scripts.scripts_of}
use Rattle.file_study.specs.study.Faults.{FaultValues, fault_values}
use Rattle.file_study.specs.study.Studies.{study_of, study_values}
use Rattle.file_study.specs.declared.study.study.Study.{Study}
use Rattle.file_study.specs.sweeps.Studies.{AreScriptsOf, IsStudyRefused}
use Rattle.file_study.specs.declared.sweeps.group.Group.{Group}
use Rattle.file_study.specs.declared.sweeps.study_fault.StudySweepFault.{StudySweepFault}
use Rattle.file_study.specs.declared.times.time.Interval.{Interval}
use Rattle.model_line.specs.{declared.line.Line.Line, declared.script.Script.Script}
use Rattle.call_lint.specs.declared.warnings.warning.Warning.{Warning}
use Rattle.call_refused.specs.told.Told.{IsToldAt}
use Rattle.call_lint.specs.{warnings.Warnings.warnings, warnings.SweepTests.sweep_warnings}
use Rattle.call_lint.specs.warnings.Warnings.{line_warnings, shown_warnings}
use Rattle.call_lint.specs.declared.lint.linted.Outcome.{Outcome}
use Rattle.call_lint.specs.declared.lint.linted.Outcome.TheVariants.{Clean, Suspicious, Refused}

abbrev pub status_of : Outcome → ℕ
status_of Clean = 0
status_of Suspicious = 2
status_of Refused = 3

-- of files that are accepted: whether there is a warning
abbrev pub outcome_of : List Warning → Outcome
outcome_of [] = Clean
outcome_of (w ∷ ws) = Suspicious

-- the text: nothing of a file in which nothing is found; of one that is refused a line that tells a
-- place in it; else lines that warn, of which nothing is said here
abbrev pub IsSaid : List ℕ → List ℕ → Outcome → List ℕ → Type 0
IsSaid name bytes Clean text = text ≡ []
IsSaid name bytes Suspicious text = ⊤
IsSaid name bytes Refused text = IsToldAt name bytes text

-- of a line alone: by its times
pub record IsTimesLinted (line : Line) (outcome : Outcome) : Type 0 where
  pub exact : List Interval
  pub told : outcome ≡ outcome_of (line_warnings line exact)

-- of the bytes of a line file: refused, or read
abbrev pub IsLineLinted : List ℕ → Outcome → Type 0
IsLineLinted bytes outcome =
    (IsErr (line_of bytes) × (outcome ≡ Refused))
    ⊎ ((own : Line) × (line_of bytes ≡ Ok (line_values own)) × IsTimesLinted own outcome)

-- of the bytes of scripts of a line: refused, or by what they show
abbrev pub IsShownLinted : Line → List ℕ → Outcome → Type 0
IsShownLinted line bytes outcome =
    (IsErr (scripts_of line bytes) × (outcome ≡ Refused))
    ⊎ ((scripts : List Script) × (scripts_of line bytes ≡ Ok (map values_of scripts))
    × (outcome ≡ outcome_of (shown_warnings line scripts)))

-- of a line and scripts, and of these warnings besides: by all of them, with the exact ends of the
-- times as they are told
pub record IsReadLinted (line : Line) (scripts : List Script) (more : List Warning)
    (outcome : Outcome) : Type 0 where
  pub exact : List Interval
  pub told : outcome ≡ outcome_of (warnings line exact scripts ++ more)

-- of a line and the bytes of its scripts: refused, or read
abbrev pub IsScriptsLinted : Line → List ℕ → Outcome → Type 0
IsScriptsLinted line bytes outcome =
    (IsErr (scripts_of line bytes) × (outcome ≡ Refused))
    ⊎ ((scripts : List Script) × (scripts_of line bytes ≡ Ok (map values_of scripts))
    × IsReadLinted line scripts [] outcome)

-- of the bytes of both
abbrev pub IsLinted : List ℕ → List ℕ → Outcome → Type 0
IsLinted line scripts outcome =
    (IsErr (line_of line) × (outcome ≡ Refused))
    ⊎ ((own : Line) × (line_of line ≡ Ok (line_values own))
    × IsScriptsLinted own scripts outcome)

-- of the line of a study and its faults: refused, where they come to no scripts, or read
abbrev pub IsFaultsLinted : Line → List FaultValues → Outcome → Type 0
IsFaultsLinted line faults outcome =
    ((why : StudySweepFault) × IsStudyRefused line faults why × (outcome ≡ Refused))
    ⊎ ((scripts : List Script) × (groups : List Group)
    × AreScriptsOf line faults scripts groups
    × IsReadLinted line scripts (sweep_warnings 0 faults) outcome)

-- of the bytes of a study
abbrev pub IsStudyLinted : List ℕ → Outcome → Type 0
IsStudyLinted bytes outcome =
    (IsErr (study_of bytes) × (outcome ≡ Refused))
    ⊎ ((study : Study) × (study_of bytes ≡ Ok (study_values study))
    × IsFaultsLinted study.line (map fault_values study.faults.items) outcome)
