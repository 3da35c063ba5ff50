-- What is printed of scripts is read back as them.
use Rattle.std.proofs.Common.{◌≡◌, ℕ, List, [], ◌∷◌, ◌++◌, Ok, ◌∙◌, ap, refl, map}
use Rattle.std.specs.List.{All, flat_map}
use Rattle.std.proofs.lemmas.List.{map-append}
use Rattle.csv.specs.Reading.{strip_bom}
use Rattle.csv.specs.Writing.{escaped, fields_text, is_blank, read_back}
use Rattle.model_line.specs.declared.line.Line.{Line}
use Rattle.model_line.specs.declared.script.SeenSpan.{SeenSpan}
use Rattle.base_records.specs.Records.{records_of}
use Rattle.file_tables.specs.script.Row.{header_record}
use Rattle.file_tables.specs.script.Printed.{file_records, head_record, records_text, row_record}
use Rattle.file_tables.specs.script.Printed.{script_records}
use Rattle.file_tables.specs.script.Scripts.{scripts_in, scripts_of}
use Rattle.file_tables.specs.script.SoFar.{ValuesFit}
use Rattle.file_tables.specs.script.Values.{AreOfOneFile, ScriptValues}
use Rattle.file_tables.specs.script.StandingLaws.{printed_stand}
use Rattle.file_tables.proofs.TextLaws.{text_read}

-- no byte order mark stands before the header
no_mark : (rows : List (List (List ℕ)))
    → strip_bom (records_text (header_record ∷ rows)) ≡ records_text (header_record ∷ rows)
unfolding strip_bom escaped fields_text is_blank
no_mark rows = refl

rows_back : (line : Line) (name : List ℕ) (spans : List SeenSpan)
    → map read_back (map (row_record line name) spans) ≡ map (row_record line name) spans
rows_back line name [] = refl
rows_back line name (x ∷ spans) =
    ap (λ (t : List (List (List ℕ))). row_record line name x ∷ t) (rows_back line name spans)

scripts_back : (line : Line) (vs : List ScriptValues)
    → map read_back (flat_map (script_records line) vs) ≡ flat_map (script_records line) vs
scripts_back line [] = refl
scripts_back line (v ∷ vs) =
    map-append read_back (script_records line v) (flat_map (script_records line) vs)
    ∙ (ap (λ (t : List (List (List ℕ))).
    (head_record v ∷ t) ++ map read_back (flat_map (script_records line) vs))
    (rows_back line v.name v.spans)
    ∙ ap (λ (t : List (List (List ℕ))). script_records line v ++ t) (scripts_back line vs))

-- the records of a file of scripts
file_read : (line : Line) (vs : List ScriptValues)
    → records_of (records_text (file_records line vs)) ≡ file_records line vs
file_read line vs =
    let rows = flat_map (script_records line) vs in
    text_read (header_record ∷ rows) (no_mark rows)
    ∙ ap (λ (t : List (List (List ℕ))). header_record ∷ t) (scripts_back line vs)

pub read_back_so : (line : Line) (vs : List ScriptValues) → All (ValuesFit line) vs
    → AreOfOneFile vs → scripts_of line (records_text (file_records line vs)) ≡ Ok vs
read_back_so line vs fit one_file =
    ap (scripts_in line) (file_read line vs) ∙ printed_stand line vs fit one_file
