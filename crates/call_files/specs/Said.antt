-- What the files of a call say, one after another: what holds over that, or of the refusal of the
-- first file that a reader refuses.
use Rattle.std.specs.Prelude.{◌≡◌, ℕ, List, Option, None, Some, Result, Ok, Err, map}
use Rattle.std.specs.List.{All}
use Rattle.model_line.specs.{declared.line.Line.Line, declared.script.Script.Script, Fits.Fits}
use Rattle.file_line.specs.LineFiles.{line_of}
use Rattle.file_line.specs.Lines.{LineValues, line_values}
use Rattle.file_document.specs.declared.fault.DocumentFault.{DocumentFault}
use Rattle.file_tables.specs.script.Values.{ScriptValues, values_of}
use Rattle.file_tables.specs.{script.Scripts.scripts_of, declared.script.fault.ScriptFault.ScriptFault}
use Rattle.model_timing.specs.{Inside.IsTimingInside}
use Rattle.model_timing.specs.NamedValues.{NamedValues}
use Rattle.file_tables.specs.{declared.timing.fault.TimingFault.TimingFault}
use Rattle.judge_match.specs.matching.Waves.{SeenValues}
use Rattle.judge_match.specs.declared.matching.fault.SeenFault.{SeenFault}
use Rattle.call_files.specs.declared.refusal.Refusal.{Refusal}
use Rattle.call_files.specs.declared.refusal.Refusal.TheVariants as refusal

-- what holds of the line that a line file gives, or of the refusal of its first fault
abbrev pub of_line : Result LineValues DocumentFault → (Refusal → Type 0) → (Line → Type 0) → Type 0
of_line (Ok values) refused holds = (line : Line) × (line_values line ≡ values) × holds line
of_line (Err why) refused holds = refused (refusal.Line why)

-- what holds of the scripts that a scripts file gives, which fit the line, or of its refusal
abbrev pub of_scripts : Line → Result (List ScriptValues) ScriptFault → (Refusal → Type 0)
    → (List Script → Type 0) → Type 0
of_scripts line (Ok values) refused holds =
    (scripts : List Script) × (map values_of scripts ≡ values) × All (Fits line) scripts
    × holds scripts
of_scripts line (Err why) refused holds = refused (refusal.Scripts why)

-- what holds of the timings that a timings file gives, all of them inside the line's declared
-- intervals, or of its refusal
abbrev pub of_timings : Line → Result (List NamedValues) TimingFault → (Refusal → Type 0)
    → (List NamedValues → Type 0) → Type 0
of_timings line (Ok timings) refused holds =
    All (λ timing. IsTimingInside line timing.timing) timings × holds timings
of_timings line (Err why) refused holds = refused (refusal.Timings why)

-- what holds of the records of the field that a record file gives, or of its refusal
abbrev pub of_record : Result (List SeenValues) SeenFault → (Refusal → Type 0)
    → (List SeenValues → Type 0) → Type 0
of_record (Ok records) refused holds = holds records
of_record (Err why) refused holds = refused (refusal.Record why)

-- what holds of the parameter that a name is, or of the refusal of a name that is none
abbrev pub of_parameter : Option ℕ → (Refusal → Type 0) → (ℕ → Type 0) → Type 0
of_parameter (Some param) refused holds = holds param
of_parameter None refused holds = refused refusal.UnknownParameter

-- what holds of the line and the scripts, refused in this order
abbrev pub of_study : List ℕ → List ℕ → (Refusal → Type 0) → (Line → List Script → Type 0)
    → Type 0
of_study line_bytes scripts_bytes refused holds =
    of_line (line_of line_bytes) refused
    (λ line. of_scripts line (scripts_of line scripts_bytes) refused (holds line))
