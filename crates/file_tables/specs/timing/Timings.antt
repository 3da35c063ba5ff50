-- What a file of timings says: its timings, or its first fault.
use Rattle.std.specs.Prelude.{ℕ, List, Some, Result, Ok, not}
use Rattle.std.specs.Option.{ok_or}
use Rattle.model_line.specs.{declared.line.Line.Line, PlainNames.is_plain_name}
use Rattle.base_memory.specs.Gives.{◌>>=◌, passes_or}
use Rattle.base_records.specs.{RecordFile.RecordFile, RecordFile.said_in, Records.records_of}
use Rattle.file_tables.specs.declared.timing.fault.TimingFault.{TimingFault}
use Rattle.file_tables.specs.declared.timing.fault.TimingFault.TheVariants as fault
use Rattle.file_tables.specs.timing.Row.{Row, header_record, row_in}
use Rattle.model_timing.specs.NamedValues.{NamedValues}
use Rattle.file_tables.specs.timing.SoFar.{OpenTiming, TimingsSoFar, all_timings, no_timings}
use Rattle.file_tables.specs.timing.SoFar.{with_row}
use Rattle.file_tables.specs.timing.Checks.{check_timing, named_in, value_for, is_given}

-- what the row makes of its timing: its parameter, its value, and neither given before
unfoldable pub after_row : Line → OpenTiming → ℕ → Row → Result OpenTiming TimingFault
after_row line t n row = do
  x ← ok_or (named_in line row.parameter) (fault.Parameter n)
  value ← ok_or (value_for line x row.value) (fault.Value n)
  once ← passes_or (not (is_given t x)) (fault.Twice n)
  Ok (with_row t x value)

-- what a record makes of the timings before it: its fields, its name, its timing, then its row
unfoldable pub after_record : Line → TimingsSoFar → ℕ → List (List ℕ)
    → Result TimingsSoFar TimingFault
after_record line s n fields = do
  row ← ok_or (row_in fields) (fault.Fields n)
  name ← passes_or (is_plain_name row.name) (fault.BadName n)
  opening ← check_timing line s.done n row.name s.latest
  timing ← after_row line opening.timing n row
  Ok (record { done = opening.done; latest = Some timing })

-- a file of timings
abbrev pub timing_file : Line → RecordFile TimingsSoFar TimingFault
timing_file line = record {
  header = header_record;
  start = no_timings;
  after = after_record line;
  no_header = fault.Header;
  no_record = fault.Empty;
}

-- what these records say
unfoldable pub timings_in : Line → List (List (List ℕ)) → Result (List NamedValues) TimingFault
timings_in line rows = said_in (timing_file line) rows >>= λ s. Ok (all_timings s)

-- what these bytes say
abbrev pub timings_of : Line → List ℕ → Result (List NamedValues) TimingFault
timings_of line bytes = timings_in line (records_of bytes)
