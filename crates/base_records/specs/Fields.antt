-- What the fields of a record are.
use Rattle.std.specs.Prelude.{ℕ, Bool, true, false, List, [], ◌∷◌, ◌&&◌, Option, Some, None, codes}
use Rattle.std.specs.Prelude.{if◌then◌else◌}
use Rattle.std.specs.Str.{bytes_eq}

-- a field with nothing in it
abbrev pub is_empty : List ℕ → Bool
is_empty [] = true
is_empty (b ∷ bs) = false

-- a record has exactly these fields
abbrev pub are_fields : List (List ℕ) → List (List ℕ) → Bool
are_fields [] [] = true
are_fields [] (field ∷ fields) = false
are_fields (word ∷ words) [] = false
are_fields (word ∷ words) (field ∷ fields) = bytes_eq field word && are_fields words fields

-- `0` or `1`
abbrev pub level_named : List ℕ → Option Bool
level_named text =
    if bytes_eq text (codes "0") then Some false
    else if bytes_eq text (codes "1") then Some true
    else None
