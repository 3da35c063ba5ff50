-- Verdicts by fault of two versions of a study, as tables of records: a header, and the records below it.
use Rattle.std.specs.Prelude.{ℕ, Bool, ◌&&◌, List, [], ◌∷◌, Option, None, Some, codes, if◌then◌else◌}
use Rattle.std.specs.Str.{bytes_eq}
use Rattle.call_columns.specs.Answers.{place_named}
use Rattle.call_columns.specs.Fields.{Fields, field_of}

abbrev pub field_or : Option ℕ → Fields → List ℕ
field_or None row = []
field_or (Some place) row = field_of row place

-- the field of a record in the column of this name; nothing where the table has none
unfoldable pub named : List ℕ → List Fields → Fields → List ℕ
named name [] row = []
named name (header ∷ rows) row = field_or (place_named name header) row

-- the same of a record that may be missing
unfoldable pub named_or : List ℕ → List Fields → Option Fields → List ℕ
named_or name table None = []
named_or name table (Some row) = named name table row

abbrev pub rows_of : List Fields → List Fields
rows_of [] = []
rows_of (header ∷ rows) = rows

-- the record of a fault at a terminal
abbrev pub is_at : List ℕ → List ℕ → List Fields → Fields → Bool
is_at fault terminal table row =
    bytes_eq (named (codes "fault") table row) fault
    && bytes_eq (named (codes "terminal") table row) terminal

abbrev pub first_at : List ℕ → List ℕ → List Fields → List Fields → Option Fields
first_at fault terminal table [] = None
first_at fault terminal table (row ∷ rows) =
    if is_at fault terminal table row then Some row else first_at fault terminal table rows

-- the record of another version of the same fault and terminal, if it has one
unfoldable pub same_in : List Fields → List Fields → Fields → Option Fields
same_in other table row = first_at (named (codes "fault") table row)
    (named (codes "terminal") table row) other (rows_of other)
