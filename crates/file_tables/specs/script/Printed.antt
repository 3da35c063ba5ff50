-- The records that stand for scripts, and their text.
use Rattle.std.specs.Prelude.{[], ℕ, List, ◌∷◌, map, codes, slice_get}
use Rattle.std.specs.List.{flat_map}
use Rattle.std.specs.Fmt.{decimal}
use Rattle.csv.specs.Writing.{row_text, default_writer}
use Rattle.model_line.specs.declared.script.Kind.TheVariants.{Internal, External}
use Rattle.model_line.specs.ParamNames.{name_at, channel_name}
use Rattle.model_line.specs.{declared.line.Line.Line, declared.script.Kind.Kind}
use Rattle.model_line.specs.{declared.script.What.What, declared.script.SeenSpan.SeenSpan}
use Rattle.model_line.specs.declared.script.What.TheVariants as what
use Rattle.model_line.specs.NamesByNumber.{element_text, kind_text}
use Rattle.file_tables.specs.{script.Row.header_record, script.Values.ScriptValues}

-- an external script has no deadline
abbrev pub deadline_text : Kind → ℕ → List ℕ
deadline_text Internal deadline = decimal deadline
deadline_text External deadline = []

abbrev pub head_record : ScriptValues → List (List ℕ)
head_record s = s.name ∷ kind_text s.kind ∷ [] ∷ deadline_text s.kind s.deadline ∷ [] ∷ []

abbrev pub item_text : What → List ℕ
item_text (what.Element place) = element_text place.element
item_text (what.Loss channel) = codes "loss"

abbrev pub place_text : Line → What → List ℕ
place_text line (what.Element place) = name_at line.terminals.items place.terminal
place_text line (what.Loss channel) =
    channel_name line.terminals.items (slice_get line.channels.items channel)

abbrev pub row_record : Line → List ℕ → SeenSpan → List (List ℕ)
row_record line name span =
    name ∷ item_text span.what ∷ place_text line span.what
    ∷ decimal span.from ∷ decimal span.to ∷ []

-- a head, and then a record for each span
abbrev pub script_records : Line → ScriptValues → List (List (List ℕ))
script_records line s = head_record s ∷ map (row_record line s.name) s.spans

-- the header, and then each script's records
abbrev pub file_records : Line → List ScriptValues → List (List (List ℕ))
file_records line scripts = header_record ∷ flat_map (script_records line) scripts

-- the text of records, as a CSV writer with the default settings writes them
abbrev pub records_text : List (List (List ℕ)) → List ℕ
records_text rows = flat_map (row_text default_writer) rows
