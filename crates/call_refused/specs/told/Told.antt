-- One line that tells where in a file something is wrong, and what:
-- `FILE:LINE:COLUMN: WORDS` and a line feed.
use Rattle.std.specs.Prelude.{◌≡◌, ◌≤◌, ◌<◌, ◌++◌, ◌||◌, ◌==◌, ℕ, Bool, true, List, [], ◌∷◌, map, not}
use Rattle.std.specs.Prelude.{length, codes, nat_lt, if◌then◌else◌}
use Rattle.std.specs.List.{list_all}
use Rattle.std.specs.Fmt.{decimal}
use Rattle.call_refused.specs.places.Places.{line_number_of, column_of}
use Rattle.call_refused.specs.places.Entries.{IsPlaceOrFirst}

-- a byte that breaks or moves a line: a line feed or another control byte
abbrev pub is_control : ℕ → Bool
is_control b = nat_lt b 32 || (b == 127)

-- a byte within a line: a control byte is shown as `?`
abbrev pub within_line : ℕ → ℕ
within_line b = if is_control b then 63 else b

-- the file, and the line and the column of a place in it
abbrev pub place_text : List ℕ → List ℕ → ℕ → List ℕ
place_text name bytes at =
    map within_line name ++ codes ":" ++ decimal (line_number_of bytes at)
    ++ codes ":" ++ decimal (column_of bytes at) ++ codes ": "

-- the text is one line that tells words of a place of these bytes, in the file of this name
pub record IsToldAt (name bytes text : List ℕ) : Type 0 where
  pub at : ℕ
  pub words : List ℕ
  pub within : at ≤ length bytes
  pub some : 0 < length words
  pub unbroken : list_all (λ b. not (is_control b)) words ≡ true
  pub is : text ≡ place_text name bytes at ++ words ++ 10 ∷ []

-- the text is one line that tells words of this place
pub record IsToldOn (name bytes : List ℕ) (at : ℕ) (text : List ℕ) : Type 0 where
  pub words : List ℕ
  pub some : 0 < length words
  pub unbroken : list_all (λ b. not (is_control b)) words ≡ true
  pub is : text ≡ place_text name bytes at ++ words ++ 10 ∷ []

-- it tells them of the place of what this path names, or of the first byte
pub record IsToldOf (name bytes path text : List ℕ) : Type 0 where
  pub at : ℕ
  pub within : at ≤ length bytes
  pub place : IsPlaceOrFirst bytes path at
  pub told : IsToldOn name bytes at text
