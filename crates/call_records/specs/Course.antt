-- The course of a call: one file is read after another, and what one says names those behind it.
use Rattle.std.specs.Prelude.{◌++◌, ◌∷◌, ℕ, List, [], Option, None, Some, Result, Ok, Err, codes}
use Rattle.std.specs.Prelude.{if◌then◌else◌}
use Rattle.model_line.specs.declared.line.Line.{Line}
use Rattle.file_line.specs.{LineFiles.line_of, Lines.LineValues}
use Rattle.file_document.specs.declared.fault.DocumentFault.{DocumentFault}
use Rattle.file_records.specs.{map.DataNames.data_name, map.DataNames.is_one_file, map.Maps.MapValues, map.Maps.map_of, map.Recorders.RecorderValues}
use Rattle.file_records.specs.declared.map.source.Signal.{Signal}
use Rattle.file_records.specs.{tracks.Told.first_untold}
use Rattle.call_records.specs.{Beside.beside, Lines.Refusal}
use Rattle.call_records.specs.Request.{Asked, Request, asked_with}
use Rattle.call_records.specs.Parts.{RecorderFiles, files_with, named}
use Rattle.call_ask.specs.declared.records.RecordsWork.{RecordsWork as Work}
use Rattle.call_ask.specs.declared.records.RecordsWork.TheVariants as work
use Rattle.call_records.specs.Faults.{line_refusal, map_refusal, untold_refusal}

-- A file: which of the call it is, its name in the store, and the most bytes that it may have.
pub record NamedFile : Type 0 where
  pub told : List ℕ
  pub name : List ℕ
  pub limit : ℕ

-- what comes next: a file is refused so; the work is done over all that was read; a file is read, and
-- what comes then depends on its bytes; or a line with these values is made
pub data Course : Type 0 where
  refused : Refusal → Course
  over : Asked → Line → MapValues → List RecorderFiles → Course
  reads : NamedFile → (List ℕ → Course) → Course
  makes : LineValues → (Line → Course) → Course

-- ---- the files of recorders

abbrev pub config_file : List ℕ → NamedFile
config_file name = record { told = name; name = name; limit = 1048576 }

abbrev pub data_file : List ℕ → NamedFile
data_file name = record { told = name; name = name; limit = 67108864 }

-- the configuration of a recorder and its data, which lie beside the map
abbrev pub pair_course : List ℕ → List ℕ → (RecorderFiles → Course) → Course
pair_course map_name config_name next =
    reads (config_file (beside map_name config_name))
    (λ config. reads (data_file (beside map_name (data_name config_name)))
    (λ samples. next (files_with (named (beside map_name config_name) config)
    (Some (named (beside map_name (data_name config_name)) samples)))))

-- a record in one file
abbrev pub one_course : List ℕ → List ℕ → (RecorderFiles → Course) → Course
one_course map_name name next =
    reads (data_file (beside map_name name))
    (λ bytes. next (files_with (named (beside map_name name) bytes) None))

-- the files of a recorder
abbrev pub recorder_course : List ℕ → RecorderValues → (RecorderFiles → Course) → Course
recorder_course map_name r next =
    if is_one_file r.config then one_course map_name r.config next
    else pair_course map_name r.config next

-- those of all recorders, behind those that are there
abbrev pub recorders_course : List ℕ → List RecorderValues → List RecorderFiles
    → (List RecorderFiles → Course) → Course
recorders_course map_name [] done next = next done
recorders_course map_name (r ∷ rs) done next =
    recorder_course map_name r (λ files. recorders_course map_name rs (done ++ files ∷ []) next)

-- ---- the whole call

-- a record needs each key and trip
abbrev pub untold_by : Work → Line → MapValues → Option Signal
untold_by work.Scripts line map = None
untold_by work.Show line map = None
untold_by work.Record line map = first_untold line map.recorders

abbrev pub unless_untold : Asked → Option Signal → Line → Course → Course
unless_untold asked None line next = next
unless_untold asked (Some signal) line next =
    refused (untold_refusal asked.name asked.bytes line signal)

abbrev pub with_map : Asked → Line → MapValues → Course
with_map asked line map =
    unless_untold asked (untold_by asked.work line map) line
    (recorders_course asked.name map.recorders [] (over asked line map))

abbrev pub after_map : Asked → Line → Result MapValues DocumentFault → Course
after_map asked line (Ok map) = with_map asked line map
after_map asked line (Err why) = refused (map_refusal asked.name asked.bytes why)

abbrev pub map_file : List ℕ → NamedFile
map_file name = record { told = codes "map"; name = name; limit = 1048576 }

abbrev pub with_line : Work → List ℕ → Line → Course
with_line work map_name line =
    reads (map_file map_name) (λ bytes. after_map (asked_with work map_name bytes) line (map_of line bytes))

abbrev pub after_line : Request → List ℕ → Result LineValues DocumentFault → Course
after_line r bytes (Ok values) = makes values (with_line r.work r.map)
after_line r bytes (Err why) = refused (line_refusal r.line bytes why)

abbrev pub line_file : List ℕ → NamedFile
line_file name = record { told = codes "line"; name = name; limit = 1048576 }

abbrev pub course_of : Request → Course
course_of r = reads (line_file r.line) (λ bytes. after_line r bytes (line_of bytes))
