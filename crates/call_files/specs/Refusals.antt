-- What is told of what is refused: a file or the parameter, the fault's printed name, and where it
-- is.
use Rattle.std.specs.Prelude.{ℕ, List, Option, None, Some, codes}
use Rattle.file_document.specs.Faults as document_faults
use Rattle.file_document.specs.declared.fault.DocumentFault.{DocumentFault}
use Rattle.file_document.specs.declared.fault.DocumentFault.TheVariants as fault
use Rattle.file_tables.specs.script.Faults as script_faults
use Rattle.file_tables.specs.timing.Faults as timing_faults
use Rattle.judge_match.specs.matching.Faults as seen_faults
use Rattle.call_files.specs.declared.refusal.Detail.{Detail}
use Rattle.call_files.specs.declared.refusal.Detail.TheVariants as detail
use Rattle.call_files.specs.declared.refusal.Refusal.{Refusal}
use Rattle.call_files.specs.declared.refusal.Refusal.TheVariants as refusal
use Rattle.call_files.specs.declared.refusal.Subject.{Subject}
use Rattle.call_files.specs.declared.refusal.Subject.TheVariants as subject
use Rattle.call_files.specs.declared.stop.File.TheVariants as file

abbrev pub subject_of : Refusal → Subject
subject_of (refusal.TooLong f) = subject.File f
subject_of (refusal.Line why) = subject.File file.Line
subject_of (refusal.Scripts why) = subject.File file.Scripts
subject_of (refusal.Timings why) = subject.File file.Timings
subject_of (refusal.Record why) = subject.File file.Record
subject_of refusal.UnknownParameter = subject.Parameter

abbrev pub name_of : Refusal → List ℕ
name_of (refusal.TooLong f) = codes "TooLong"
name_of (refusal.Line why) = document_faults.fault_name why
name_of (refusal.Scripts why) = script_faults.fault_name why
name_of (refusal.Timings why) = timing_faults.fault_name why
name_of (refusal.Record why) = seen_faults.fault_name why
name_of refusal.UnknownParameter = codes "Unknown"

-- the place of a fault of a line file, or the two terminals that no channel joins
abbrev pub line_detail : DocumentFault → Detail
line_detail fault.NotToml = detail.Nothing
line_detail (fault.Unknown path) = detail.Path path
line_detail (fault.Missing path) = detail.Path path
line_detail (fault.WrongKind path) = detail.Path path
line_detail (fault.Range path) = detail.Path path
line_detail (fault.BadName path) = detail.Path path
line_detail (fault.Twice path) = detail.Path path
line_detail (fault.Channels from to) = detail.Channel from to
line_detail (fault.BadTime path why) = detail.Path path
line_detail (fault.Swept path) = detail.Path path
line_detail (fault.NoInstant path) = detail.Path path
line_detail (fault.TooMany path) = detail.Path path
line_detail (fault.BadDate path) = detail.Path path
line_detail (fault.OneFile path) = detail.Path path

-- the record of a fault of a scripts, timings or record file
abbrev pub record_detail : Option ℕ → Detail
record_detail None = detail.Nothing
record_detail (Some n) = detail.Record n

abbrev pub detail_of : Refusal → Detail
detail_of (refusal.TooLong f) = detail.Nothing
detail_of (refusal.Line why) = line_detail why
detail_of (refusal.Scripts why) = record_detail (script_faults.fault_record why)
detail_of (refusal.Timings why) = record_detail (timing_faults.fault_record why)
detail_of (refusal.Record why) = record_detail (seen_faults.fault_record why)
detail_of refusal.UnknownParameter = detail.Nothing
