-- What holds of the first refusal, or of what is read, holds of each that is wider.
use Rattle.std.proofs.Common.{◌≡◌, List, ℕ, map}
use Rattle.model_line.specs.{declared.line.Line.Line, declared.script.Script.Script}
use Rattle.file_line.specs.LineFiles.{line_of}
use Rattle.file_tables.specs.script.Scripts.{scripts_of}
use Rattle.file_study.specs.sweeps.Groups.{group_values, single_group}
use Rattle.file_study.specs.declared.sweeps.group.Group.{Group}
use Rattle.call_files.specs.Said.{of_scripts, of_study}
use Rattle.call_files.specs.declared.refusal.Refusal.{Refusal}
use Rattle.call_files.specs.FileLaws.{line_wider, scripts_wider}

-- what holds of groups of which each is one script
abbrev pub HasGroups : List Script → (List Group → Type 0) → Type 0
HasGroups scripts holds =
    (groups : List Group) × (map group_values groups ≡ map single_group scripts) × holds groups

pub study_wider : (line_bytes scripts_bytes : List ℕ) (R S : Refusal → Type 0)
    (H P : Line → List Script → Type 0) → ((why : Refusal) → R why → S why)
    → ((line : Line) (scripts : List Script) → H line scripts → P line scripts)
    → of_study line_bytes scripts_bytes R H → of_study line_bytes scripts_bytes S P
study_wider line_bytes scripts_bytes R S H P refused holds first =
    line_wider (line_of line_bytes) R S
    (λ l. of_scripts l (scripts_of l scripts_bytes) R (H l))
    (λ l. of_scripts l (scripts_of l scripts_bytes) S (P l)) refused
    (λ l h. scripts_wider l (scripts_of l scripts_bytes) R S (H l) (P l) refused (holds l) h)
    first
