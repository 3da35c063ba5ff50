-- What a record file says: its heads with their changes, or its first fault.
use Rattle.std.specs.Prelude.{◌==◌, ℕ, List, Result, Ok, nat_lt, if◌then◌else◌}
use Rattle.std.specs.Option.{ok_or}
use Rattle.std.proofs.lemmas.Map.Entries.{option_filter}
use Rattle.model_line.specs.{declared.line.Line.Line, declared.script.Script.Script}
use Rattle.model_names.specs.NumbersByName.{script_named}
use Rattle.base_memory.specs.Gives.{◌>>=◌, passes_or}
use Rattle.base_records.specs.RecordFile.{RecordFile}
use Rattle.base_records.specs.{RecordFile.said_in, Records.records_of, SoFar.SoFar, SoFar.all_of}
use Rattle.base_records.specs.SoFar.{nothing}
use Rattle.base_text.specs.store.Number.{number_of}
use Rattle.judge_match.specs.declared.matching.fault.SeenFault.{SeenFault}
use Rattle.judge_match.specs.declared.matching.fault.SeenFault.TheVariants as fault
use Rattle.base_records.specs.Fields.{level_named}
use Rattle.judge_match.specs.matching.Checks.{is_head, name_for, place_at, comes_later}
use Rattle.judge_match.specs.matching.Checks.{level_before, other_level, change_of}
use Rattle.judge_match.specs.{matching.Heads.HeadValues, matching.Heads.with_head, matching.Heads.with_change, matching.Row.Row}
use Rattle.judge_match.specs.matching.Row.{header_record, row_in}

-- a row that is no head: its head, its place, its tick below the horizon, its order and its level
unfoldable pub after_row : Line → SoFar HeadValues → ℕ → Row → ℕ → Result (SoFar HeadValues) SeenFault
after_row line s n row script = do
  head ← ok_or (option_filter (λ h. h.script == script) s.latest) (fault.Order n)
  place ← ok_or (place_at line row) (fault.BadPlace n)
  t ← ok_or (option_filter (λ t. nat_lt t line.horizon) (number_of row.tick)) (fault.Ticks n)
  later ← passes_or (comes_later head.latest t place) (fault.Later n)
  level ← ok_or (other_level (level_before head place) (level_named row.level)) (fault.Level n)
  Ok (with_change s head (change_of place t level))

abbrev pub after_name : Line → SoFar HeadValues → ℕ → Row → ℕ → Result (SoFar HeadValues) SeenFault
after_name line s n row script =
    if is_head row then Ok (with_head s script) else after_row line s n row script

-- what a record makes of the heads before it: its fields, its name, then what it is
unfoldable pub after_record : Line → List Script → SoFar HeadValues → ℕ → List (List ℕ)
    → Result (SoFar HeadValues) SeenFault
after_record line scripts s n fields = do
  row ← ok_or (row_in fields) (fault.Fields n)
  script ← ok_or (name_for s (is_head row) (script_named scripts row.name)) (fault.BadName n)
  after_name line s n row script

-- a record file
abbrev pub seen_file : Line → List Script → RecordFile (SoFar HeadValues) SeenFault
seen_file line scripts = record {
  header = header_record;
  start = nothing;
  after = after_record line scripts;
  no_header = fault.Header;
  no_record = fault.Empty;
}

-- what these records say
unfoldable pub heads_in : Line → List Script → List (List (List ℕ))
    → Result (List HeadValues) SeenFault
heads_in line scripts rows = said_in (seen_file line scripts) rows >>= λ s. Ok (all_of s)

-- what these bytes say
abbrev pub heads_of : Line → List Script → List ℕ → Result (List HeadValues) SeenFault
heads_of line scripts bytes = heads_in line scripts (records_of bytes)
