-- What the bytes of a scripts file say rests on the values of the line alone.
use Rattle.std.proofs.Common.{◌≡◌, ℕ, List, Option, Result, Ok, refl, ◌∙◌, ap}
use Rattle.std.proofs.Math.Path.{fun_ext}
use Rattle.std.specs.Prelude.{length, nat_lt, option_map}
use Rattle.std.specs.{List.position_from, Option.ok_or, Str.bytes_eq}
use Rattle.std.proofs.lemmas.Map.Entries.{option_filter}
use Rattle.base_memory.specs.Gives.{◌>>=◌, passes_or}
use Rattle.base_records.specs.{Fields.is_empty, SoFar.SoFar, SoFar.all_of, SoFar.nothing}
use Rattle.base_records.specs.{RecordFile.RecordFile, RecordFile.said_in, Records.records_of}
use Rattle.base_text.specs.store.Number.{number_of}
use Rattle.model_line.specs.declared.script.Kind.TheVariants.{Internal, External}
use Rattle.model_line.specs.{declared.line.Line.Line, declared.script.Kind.Kind}
use Rattle.model_line.specs.{declared.line.Channel.Channel, declared.line.Terminal.Terminal}
use Rattle.model_line.specs.{declared.script.What.What, SetBounds.SameButParams}
use Rattle.model_line.specs.declared.script.What.TheVariants as what
use Rattle.model_names.specs.NumbersByName.{channel_named, has_name, terminal_named}
use Rattle.file_tables.specs.declared.script.fault.ScriptFault.{ScriptFault}
use Rattle.file_tables.specs.declared.script.fault.ScriptFault.TheVariants as fault
use Rattle.file_tables.specs.declared.script.item.Item.{Item}
use Rattle.file_tables.specs.declared.script.item.Item.TheVariants.{Head, Seen, Lost}
use Rattle.file_tables.specs.script.Checks.{deadline_of, has_good_name, item_of, span_between, what_at}
use Rattle.file_tables.specs.{script.Row.Row, script.Row.header_record, script.Row.row_in, script.Values.ScriptValues}
use Rattle.file_tables.specs.{script.Values.with_head}
use Rattle.file_tables.specs.script.Values.{with_row}
use Rattle.file_tables.specs.script.Scripts.{after_head, after_item, after_record, after_row, script_file}
use Rattle.file_tables.specs.script.Scripts.{scripts_in, scripts_of}

module _ (a b : Line) (same : SameButParams a b) where
  terminals_same : (name : List ℕ) → terminal_named b name ≡ terminal_named a name
  terminals_same name =
      ap (λ (ts : List Terminal). position_from (λ (t : Terminal). bytes_eq t.name name) 0 ts)
      same.terminals

  channels_same : (name : List ℕ) → channel_named b name ≡ channel_named a name
  channels_same name =
      ap (λ (ts : List Terminal). position_from (has_name ts name) 0 b.channels.items) same.terminals
      ∙ ap (λ (cs : List Channel). position_from (has_name a.terminals.items name) 0 cs)
      same.channels

  what_same : (item : Item) (place : List ℕ) → what_at b item place ≡ what_at a item place
  what_same (Head kind) place = refl
  what_same (Seen element) place =
      ap (λ (o : Option ℕ). option_map (λ (k : ℕ). what.Element (record {
        element = element;
        terminal = k;
      })) o)
      (terminals_same place)
  what_same Lost place =
      ap (λ (o : Option ℕ). option_map (λ (c : ℕ). what.Loss c) o) (channels_same place)

  deadline_same : (kind : Kind) (from to : List ℕ)
      → deadline_of b kind from to ≡ deadline_of a kind from to
  deadline_same Internal from to = rw same.horizon refl
  deadline_same External from to = refl

  head_same : (s : SoFar ScriptValues) (n : ℕ) (row : Row) (kind : Kind)
      → after_head b s n row kind ≡ after_head a s n row kind
  unfolding after_head
  head_same s n row kind =
      let made : Option ℕ → Result (SoFar ScriptValues) ScriptFault = λ o.
      passes_or (nat_lt (length (all_of s)) 64) fault.TooMany >>= λ room.
      passes_or (is_empty row.place) (fault.BadPlace n) >>= λ place.
      ok_or o (fault.Ticks n) >>= λ deadline. Ok (with_head s row.name kind deadline) in
      ap made (deadline_same kind row.from row.to)

  row_same : (s : SoFar ScriptValues) (n : ℕ) (row : Row) (item : Item)
      → after_row b s n row item ≡ after_row a s n row item
  unfolding after_row
  row_same s n row item =
      let made : Option What → ℕ → Result (SoFar ScriptValues) ScriptFault = λ o horizon.
      ok_or (option_filter (λ (v : ScriptValues). bytes_eq v.name row.name) s.latest)
      (fault.Order n) >>= λ latest.
      passes_or (nat_lt (length latest.spans) 200) fault.TooMany >>= λ room.
      ok_or o (fault.BadPlace n) >>= λ place.
      ok_or (span_between horizon place (number_of row.from) (number_of row.to)) (fault.Ticks n)
      >>= λ span. Ok (with_row s latest span) in
      ap (λ (o : Option What). made o b.horizon) (what_same item row.place)
      ∙ ap (made (what_at a item row.place)) same.horizon

  item_same : (s : SoFar ScriptValues) (n : ℕ) (row : Row) (item : Item)
      → after_item b s n row item ≡ after_item a s n row item
  item_same s n row (Head kind) = head_same s n row kind
  item_same s n row (Seen element) = row_same s n row (Seen element)
  item_same s n row Lost = row_same s n row Lost

  record_same : (s : SoFar ScriptValues) (n : ℕ) (fields : List (List ℕ))
      → after_record b s n fields ≡ after_record a s n fields
  unfolding after_record
  record_same s n fields =
      let made : (SoFar ScriptValues → ℕ → Row → Item → Result (SoFar ScriptValues) ScriptFault)
      → Result (SoFar ScriptValues) ScriptFault = λ after.
      ok_or (row_in fields) (fault.Fields n) >>= λ row.
      passes_or (has_good_name s row) (fault.BadName n) >>= λ name.
      ok_or (item_of row.item) (fault.Item n) >>= λ item. after s n row item in
      ap made (fun_ext (λ s. fun_ext (λ n. fun_ext (λ row. fun_ext (λ item.
      item_same s n row item)))))

  after_same : after_record b ≡ after_record a
  after_same = fun_ext (λ s. fun_ext (λ n. fun_ext (λ fields. record_same s n fields)))

  file_same : script_file b ≡ script_file a
  file_same =
      let made : (SoFar ScriptValues → ℕ → List (List ℕ)
      → Result (SoFar ScriptValues) ScriptFault)
      → RecordFile (SoFar ScriptValues) ScriptFault = λ after.
      record {
        header = header_record;
        start = nothing;
        after = after;
        no_header = fault.Header;
        no_record = fault.Empty;
      } in
      ap made after_same

  pub scripts_same : (bytes : List ℕ) → scripts_of b bytes ≡ scripts_of a bytes
  unfolding scripts_in
  scripts_same bytes =
      ap (λ (file : RecordFile (SoFar ScriptValues) ScriptFault).
      said_in file (records_of bytes) >>= λ s. Ok (all_of s)) file_same
