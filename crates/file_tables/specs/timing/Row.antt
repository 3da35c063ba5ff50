-- The fields of a record.
use Rattle.std.specs.Prelude.{ℕ, List, [], ◌∷◌, Option, Some, None, codes}
use Rattle.file_tables.specs.declared.timing.fields.Fields.{Fields}

-- the three fields of a record that has three
pub record Row : Type 0 where
  pub name : List ℕ
  pub parameter : List ℕ
  pub value : List ℕ

-- the record has three fields
abbrev pub row_in : List (List ℕ) → Option Row
row_in (a ∷ b ∷ c ∷ []) = Some (record { name = a; parameter = b; value = c })
row_in _ = None

-- the header has exactly these
abbrev pub header_record : List (List ℕ)
header_record = codes "timing" ∷ codes "parameter" ∷ codes "value" ∷ []

-- what the code holds of them
abbrev pub row_of : Fields → Row
row_of f = record { name = f.name.now; parameter = f.parameter.now; value = f.value.now }
