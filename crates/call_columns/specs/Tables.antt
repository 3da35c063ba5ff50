-- A table of records as columns.
use Rattle.std.specs.Prelude.{ℕ, Bool, false, List, [], ◌∷◌, ◌++◌}
use Rattle.std.specs.List.{flat_map}
use Rattle.base_records.specs.Records.{records_of}
use Rattle.call_columns.specs.{Fields.Fields, Columns.columns_of, Lines.line_of, Answers.summary}

-- the header, a line for each record, and what they come to
abbrev pub table_of : Bool → List Fields → List ℕ
table_of is_colored [] = []
table_of is_colored (header ∷ rows) =
    line_of false (columns_of header rows) header
    ++ flat_map (line_of is_colored (columns_of header rows)) rows ++ summary header rows

-- of a CSV text
abbrev pub columns_text : Bool → List ℕ → List ℕ
columns_text is_colored text = table_of is_colored (records_of text)
