-- The columns of a table: a header, and the records below it.
use Rattle.std.specs.Prelude.{ℕ, zero, suc, Bool, true, false, max, List, [], ◌∷◌, ◌++◌, length}
use Rattle.std.specs.Prelude.{codes, if◌then◌else◌}
use Rattle.std.specs.List.{list_all}
use Rattle.std.specs.Str.{bytes_eq}
use Rattle.base_records.specs.Fields.{is_empty}
use Rattle.call_columns.specs.Fields.{Fields, field_of, is_figure}
use Rattle.call_columns.specs.declared.column.{Column.Column, Kind.Kind}
use Rattle.call_columns.specs.declared.column.Kind.TheVariants.{Answer, Fails, Open, Other}

-- the greatest length of a field at a place
abbrev pub width_of : List Fields → ℕ → ℕ
width_of [] place = 0
width_of (row ∷ rows) place = max (length (field_of row place)) (width_of rows place)

-- something stands at a place in some record
abbrev pub stands : List Fields → ℕ → Bool
stands [] place = false
stands (row ∷ rows) place = if is_empty (field_of row place) then stands rows place else true

-- a column is shown if something stands in it, and if there are no records
abbrev pub is_shown : List Fields → ℕ → Bool
is_shown [] place = true
is_shown (row ∷ rows) place = stands (row ∷ rows) place

-- what stands at a place is figures alone
abbrev pub are_figures : List Fields → ℕ → Bool
are_figures [] place = true
are_figures (row ∷ rows) place =
    if list_all is_figure (field_of row place) then are_figures rows place else false

-- what a column is of, by its name
abbrev pub kind_of : List ℕ → Kind
kind_of name =
    if bytes_eq name (codes "answer") then Answer
    else if bytes_eq name (codes "fails") then Fails
    else if bytes_eq name (codes "open") then Open
    else Other

-- the column at a place: figures stand at its right
abbrev pub column_at : Fields → List Fields → ℕ → Column
column_at header rows place = record {
  place = place;
  width = max (length (field_of header place)) (width_of rows place);
  is_right = are_figures rows place;
  kind = kind_of (field_of header place);
}

-- those of the first places that are shown
abbrev pub columns_below : Fields → List Fields → ℕ → List Column
columns_below header rows zero = []
columns_below header rows (suc place) =
    columns_below header rows place
    ++ (if is_shown rows place then column_at header rows place ∷ [] else [])

abbrev pub columns_of : Fields → List Fields → List Column
columns_of header rows = columns_below header rows (length header)
