-- The fields of a record.
use Rattle.std.specs.Prelude.{ℕ, List, [], ◌∷◌, Option, Some, None, codes}
use Rattle.file_tables.specs.declared.script.fields.Fields.{Fields}

-- the five fields of a record that has five
pub record Row : Type 0 where
  pub name : List ℕ
  pub item : List ℕ
  pub place : List ℕ
  pub from : List ℕ
  pub to : List ℕ

-- the record has five fields
abbrev pub row_in : List (List ℕ) → Option Row
row_in (a ∷ b ∷ c ∷ d ∷ e ∷ []) =
    Some (record { name = a; item = b; place = c; from = d; to = e })
row_in _ = None

-- the header has exactly these
abbrev pub header_record : List (List ℕ)
header_record =
    codes "script" ∷ codes "item" ∷ codes "place" ∷ codes "from" ∷ codes "to" ∷ []

-- what the code holds of them
abbrev pub row_of : Fields → Row
row_of f = record {
  name = f.name.now;
  item = f.item.now;
  place = f.place.now;
  from = f.from.now;
  to = f.to.now;
}
