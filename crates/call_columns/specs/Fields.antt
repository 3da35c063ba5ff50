-- The fields of a record, and what stands in them.
use Rattle.std.specs.Prelude.{ℕ, Bool, true, false, ◌||◌, ◌==◌, List, [], ◌∷◌, ◌++◌, Option, None, Some}
use Rattle.std.specs.Prelude.{replicate, codes}
use Rattle.csv.specs.Records.{field_at}
use Rattle.base_text.specs.store.Number.{is_digit}

-- a record, as its fields
abbrev pub Fields : Type 0
Fields = List (List ℕ)

abbrev pub text_or_none : Option (List ℕ) → List ℕ
text_or_none None = []
text_or_none (Some text) = text

-- the field at a place, the first being 0; nothing where the record has none
abbrev pub field_of : Fields → ℕ → List ℕ
field_of fields place = text_or_none (field_at fields place)

-- a digit, a point or a minus
abbrev pub is_figure : ℕ → Bool
is_figure byte = is_digit byte || byte == 46 || byte == 45

abbrev pub blanks : ℕ → List ℕ
blanks many = replicate many 32

-- between two columns
abbrev pub space : List ℕ
space = codes "  "
