-- What a file of scripts says: its scripts, or its first fault.
use Rattle.std.specs.Prelude.{ℕ, List, Result, Ok, length, nat_lt}
use Rattle.std.specs.{Option.ok_or, Str.bytes_eq}
use Rattle.std.proofs.lemmas.Map.Entries.{option_filter}
use Rattle.model_line.specs.{declared.line.Line.Line, declared.script.Kind.Kind}
use Rattle.base_memory.specs.Gives.{◌>>=◌, passes_or}
use Rattle.base_records.specs.{Fields.is_empty, SoFar.SoFar, SoFar.all_of, SoFar.nothing}
use Rattle.base_records.specs.{RecordFile.RecordFile, RecordFile.said_in, Records.records_of}
use Rattle.base_text.specs.store.Number.{number_of}
use Rattle.file_tables.specs.declared.script.fault.ScriptFault.{ScriptFault}
use Rattle.file_tables.specs.declared.script.fault.ScriptFault.TheVariants as fault
use Rattle.file_tables.specs.declared.script.item.Item.{Item}
use Rattle.file_tables.specs.declared.script.item.Item.TheVariants.{Head, Seen, Lost}
use Rattle.file_tables.specs.script.Values.{ScriptValues, with_head, with_row}
use Rattle.file_tables.specs.script.Row.{Row, header_record, row_in}
use Rattle.file_tables.specs.script.Checks.{item_of, has_good_name, what_at, deadline_of, span_between}

-- a head: fewer than 64 before it, no place, then its deadline
unfoldable pub after_head : Line → SoFar ScriptValues → ℕ → Row → Kind
    → Result (SoFar ScriptValues) ScriptFault
after_head line s n row kind = do
  room ← passes_or (nat_lt (length (all_of s)) 64) fault.TooMany
  place ← passes_or (is_empty row.place) (fault.BadPlace n)
  deadline ← ok_or (deadline_of line kind row.from row.to) (fault.Ticks n)
  Ok (with_head s row.name kind deadline)

-- any other row: the latest script's name, fewer than 200 before it, its place, then its ticks
unfoldable pub after_row : Line → SoFar ScriptValues → ℕ → Row → Item
    → Result (SoFar ScriptValues) ScriptFault
after_row line s n row item = do
  latest ← ok_or (option_filter (λ v. bytes_eq v.name row.name) s.latest) (fault.Order n)
  room ← passes_or (nat_lt (length latest.spans) 200) fault.TooMany
  place ← ok_or (what_at line item row.place) (fault.BadPlace n)
  span ← ok_or (span_between line.horizon place (number_of row.from) (number_of row.to))
      (fault.Ticks n)
  Ok (with_row s latest span)

abbrev pub after_item : Line → SoFar ScriptValues → ℕ → Row → Item
    → Result (SoFar ScriptValues) ScriptFault
after_item line s n row (Head kind) = after_head line s n row kind
after_item line s n row (Seen element) = after_row line s n row (Seen element)
after_item line s n row Lost = after_row line s n row Lost

-- what a record makes of the scripts before it
unfoldable pub after_record : Line → SoFar ScriptValues → ℕ → List (List ℕ)
    → Result (SoFar ScriptValues) ScriptFault
after_record line s n fields = do
  row ← ok_or (row_in fields) (fault.Fields n)
  name ← passes_or (has_good_name s row) (fault.BadName n)
  item ← ok_or (item_of row.item) (fault.Item n)
  after_item line s n row item

-- a file of scripts
abbrev pub script_file : Line → RecordFile (SoFar ScriptValues) ScriptFault
script_file line = record {
  header = header_record;
  start = nothing;
  after = after_record line;
  no_header = fault.Header;
  no_record = fault.Empty;
}

-- what these records say
unfoldable pub scripts_in : Line → List (List (List ℕ)) → Result (List ScriptValues) ScriptFault
scripts_in line rows = said_in (script_file line) rows >>= λ s. Ok (all_of s)

-- what these bytes say
abbrev pub scripts_of : Line → List ℕ → Result (List ScriptValues) ScriptFault
scripts_of line bytes = scripts_in line (records_of bytes)
