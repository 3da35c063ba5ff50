-- What is so of every choice of delays where `match` has put a line, and by its status.
use Rattle.std.specs.Prelude.{◌≡◌, ℕ, List, Ok}
use Rattle.model_line.specs.{declared.line.Line.Line, declared.script.Script.Script}
use Rattle.judge_match.specs.matching.Waves.{SeenValues, records_said}
use Rattle.cert_own.specs.Matched.{AllGiven, HoldsOfRecord, HoldsOfRecordAt, HoldsOfSomeRecord}
use Rattle.cert_own.specs.Matched.{IsGivenByNone, IsOpenRecord, Matched}
use Rattle.call_pilot.specs.top.SaidByFiles.{InFiles}
use Rattle.call_files.specs.declared.stop.Status.{Status}
use Rattle.call_files.specs.declared.stop.Status.TheVariants as status

-- the bytes say records of the field, for a line and scripts, and this holds of them
pub record OfRecords (record_bytes : List ℕ) (Fact : Line → List Script → List SeenValues → Type 0)
    (line : Line) (scripts : List Script) : Type 0 where
  pub records : List SeenValues
  pub records_are : records_said line scripts record_bytes ≡ Ok records
  pub holds : Fact line scripts records

-- this holds of the line, of the scripts and of the records that the files say
abbrev pub InRecords : List ℕ → List ℕ → List ℕ
    → (Line → List Script → List SeenValues → Type 0) → Type 0
InRecords line_bytes scripts_bytes record_bytes Fact =
    InFiles line_bytes scripts_bytes (OfRecords record_bytes Fact)

-- record i is of the script of that name, and what is said of it is true
abbrev pub IsMatchTrue : ℕ → List ℕ → Matched → Line → List Script → List SeenValues → Type 0
IsMatchTrue i name said line scripts records =
    HoldsOfRecordAt line scripts records i name (HoldsOfRecord said)

-- what the status of `match` says. 0: some choice inside gives each record. 1: of some record, no
-- choice inside gives it. 2: some record is open.
abbrev pub IsMatchToldBy : Status → Line → List Script → List SeenValues → Type 0
IsMatchToldBy status.Good line scripts records = AllGiven line scripts records
IsMatchToldBy status.SomeNo line scripts records =
    HoldsOfSomeRecord line scripts records IsGivenByNone
IsMatchToldBy status.SomeUndecided line scripts records =
    HoldsOfSomeRecord line scripts records IsOpenRecord
IsMatchToldBy s line scripts records = Unit {0}
