-- What is read of a line file and a scripts file.
use Rattle.std.specs.Prelude.{◌≡◌, ⊤, ℕ, List, Result, Ok, Err, map}
use Rattle.call_answer.specs.{Study.IsStudy, declared.study.Study.Study}
use Rattle.file_line.specs.{LineFiles.line_of, Lines.line_values}
use Rattle.file_tables.specs.{script.Scripts.scripts_of, script.Values.values_of}
use Rattle.call_files.specs.{Said.of_study, declared.stop.Stop.Stop}
use Rattle.call_files.specs.declared.stop.Stop.TheVariants as stop

-- a line file and a scripts file say it
pub record IsSaid (line_bytes scripts_bytes : List ℕ) (study : Study) : Type 0 where
  pub line_is : line_of line_bytes ≡ Ok (line_values study.line)
  pub scripts_are : scripts_of study.line scripts_bytes ≡ Ok (map values_of study.scripts.items)

-- the two files give it, or the first refusal
abbrev pub ReadsStudy : List ℕ → List ℕ → Result Study Stop → Type 0
ReadsStudy line_bytes scripts_bytes (Ok study) =
    IsStudy study × IsSaid line_bytes scripts_bytes study
ReadsStudy line_bytes scripts_bytes (Err stop.Usage) = ⊥
ReadsStudy line_bytes scripts_bytes (Err (stop.Refused why)) =
    of_study line_bytes scripts_bytes (λ first. first ≡ why) (λ line scripts. ⊥)
ReadsStudy line_bytes scripts_bytes (Err (stop.Store file)) = ⊥
ReadsStudy line_bytes scripts_bytes (Err stop.Sink) = ⊥
ReadsStudy line_bytes scripts_bytes (Err stop.Memory) = ⊤
