-- A command over what its files say, or the refusal of the first file that is too long or that a
-- reader refuses.
use Rattle.std.specs.Prelude.{◌∷◌, ℕ, List, [], Result, Ok, Err}
use Rattle.model_line.specs.{declared.line.Line.Line, declared.script.Script.Script}
use Rattle.model_names.specs.NumbersByName.{param_named}
use Rattle.file_line.specs.LineFiles.{line_of}
use Rattle.file_tables.specs.timing.Timings.{timings_of}
use Rattle.judge_match.specs.matching.Waves.{records_said}
use Rattle.call_files.specs.Said.{of_line, of_parameter, of_record, of_study, of_timings}
use Rattle.call_files.specs.declared.refusal.Refusal.{Refusal}
use Rattle.call_files.specs.declared.refusal.Refusal.TheVariants as refusal
use Rattle.call_files.specs.declared.stop.File.{File}
use Rattle.call_pilot.specs.top.Words as words
use Rattle.call_pilot.specs.top.Words.{Command, TwoFiles}
use Rattle.call_pilot.specs.top.Work as work
use Rattle.call_pilot.specs.top.Work.{Work}
use Rattle.call_pilot.specs.declared.top.words.OneFile.{OneFile}
use Rattle.call_pilot.specs.declared.top.words.OneFile.TheVariants as one
use Rattle.call_pilot.specs.declared.top.words.ThreeFiles.{ThreeFiles}
use Rattle.call_pilot.specs.declared.top.words.ThreeFiles.TheVariants as three

-- what holds of a command over what its files say, or of the refusal of the first fault
abbrev pub Reading : Type 1
Reading = (Refusal → Type 0) → (Work → Type 0) → Type 0

abbrev pub work_of_one : OneFile → Line → Work
work_of_one one.Net line = work.net line
work_of_one one.Line line = work.line line
work_of_one one.Migrate line = work.migrate line

-- over the line and the scripts alone
abbrev pub no_other_file : TwoFiles → Line → List Script → Reading
no_other_file words.certify line scripts refused holds = holds (work.certify line scripts)
no_other_file words.report line scripts refused holds = holds (work.report line scripts)
no_other_file (words.margin name) line scripts refused holds =
    of_parameter (param_named line name) refused (λ param. holds (work.margin line scripts param))
no_other_file (words.split n) line scripts refused holds = holds (work.split line scripts n)

-- a third file, over the line and the scripts
abbrev pub third_file : ThreeFiles → List ℕ → Line → List Script → Reading
third_file three.Play bytes line scripts refused holds =
    of_timings line (timings_of line bytes) refused
    (λ timings. holds (work.play line scripts timings))
third_file three.Check bytes line scripts refused holds = holds (work.check line scripts bytes)
third_file three.Recheck bytes line scripts refused holds =
    holds (work.recheck line scripts bytes)
third_file three.Match bytes line scripts refused holds =
    of_record (records_said line scripts bytes) refused
    (λ records. holds (work.matching line scripts records))

abbrev pub one_file : OneFile → List ℕ → Reading
one_file command line_bytes refused holds =
    of_line (line_of line_bytes) refused (λ line. holds (work_of_one command line))

abbrev pub two_files : TwoFiles → List ℕ → List ℕ → Reading
two_files command line_bytes scripts_bytes refused holds =
    of_study line_bytes scripts_bytes refused
    (λ line scripts. no_other_file command line scripts refused holds)

abbrev pub three_files : ThreeFiles → List ℕ → List ℕ → List ℕ → Reading
three_files command line_bytes scripts_bytes third_bytes refused holds =
    of_study line_bytes scripts_bytes refused
    (λ line scripts. third_file command third_bytes line scripts refused holds)

-- no file
abbrev pub bench : ℕ → Reading
bench n refused holds = holds (work.bench n)

-- over the bytes of the command's files in word order
abbrev pub over_bytes : Command → List (List ℕ) → Reading
over_bytes (words.one_file command _) (line_bytes ∷ []) = one_file command line_bytes
over_bytes (words.two_files command _ _) (line_bytes ∷ scripts_bytes ∷ []) =
    two_files command line_bytes scripts_bytes
over_bytes (words.three_files command _ _ _) (line_bytes ∷ scripts_bytes ∷ third_bytes ∷ []) =
    three_files command line_bytes scripts_bytes third_bytes
over_bytes (words.bench n) [] = bench n
over_bytes command bytes = λ refused holds. ⊥

-- once the files are there, or one is too long
abbrev pub over_files : Command → Result (List (List ℕ)) File → Reading
over_files command (Ok bytes) refused holds = over_bytes command bytes refused holds
over_files command (Err file) refused holds = refused (refusal.TooLong file)
