-- What a refused line file or scripts file makes of a study that is read.
use Rattle.std.proofs.Common.{◌≡◌, ℕ, List, Ok, Err, refl}
use Rattle.base_memory.specs.Gives.{Fails}
use Rattle.base_memory.specs.declared.stopped.Stopped.{Stopped}
use Rattle.base_memory.specs.declared.stopped.Stopped.TheVariants as stopped
use Rattle.model_line.specs.{declared.line.Line.Line}
use Rattle.file_line.specs.{LineFiles.line_of, Lines.line_values}
use Rattle.file_document.specs.declared.fault.DocumentFault.{DocumentFault}
use Rattle.file_tables.specs.script.Scripts.{scripts_of}
use Rattle.file_tables.specs.declared.script.fault.ScriptFault.{ScriptFault}
use Rattle.call_files.specs.Stops.{stop_by}
use Rattle.call_files.specs.Study.{ReadsStudy}
use Rattle.call_files.specs.declared.refusal.Refusal.TheVariants as refusal

-- a line file that is refused, before scripts
pub line_refused : (line_bytes scripts_bytes : List ℕ) (why : Stopped DocumentFault)
    → Fails why (line_of line_bytes)
    → ReadsStudy line_bytes scripts_bytes (Err (stop_by refusal.Line why))
line_refused line_bytes scripts_bytes (stopped.Fault fault) f = rw f refl
line_refused line_bytes scripts_bytes stopped.Memory f = tt

-- a scripts file that is refused
pub scripts_refused : (line_bytes scripts_bytes : List ℕ) (l : Line) (why : Stopped ScriptFault)
    → line_of line_bytes ≡ Ok (line_values l) → Fails why (scripts_of l scripts_bytes)
    → ReadsStudy line_bytes scripts_bytes (Err (stop_by refusal.Scripts why))
scripts_refused line_bytes scripts_bytes l (stopped.Fault fault) is f = rw is (l, refl, rw f refl)
scripts_refused line_bytes scripts_bytes l stopped.Memory is f = tt
