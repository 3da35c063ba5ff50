-- The line on standard error of a file that is refused.
use Rattle.std.specs.Prelude.{◌≡◌, ◌≤◌, ◌++◌, ℕ, List, codes, length, map}
use Rattle.std.specs.List.{concat}
use Rattle.call_refused.specs.told.Told.{IsToldAt, place_text, within_line}

-- what refuses a file: exactly this line; a line that tells a place in the file of this name, whose
-- bytes these are; or one that tells these words of a place in it
pub data Refusal : Type 0 where
  exactly : List ℕ → Refusal
  placed : List ℕ → List ℕ → Refusal
  worded : List ℕ → List ℕ → List (List ℕ) → Refusal

-- `FILE:LINE:COLUMN: WORDS` of a place in these bytes
pub record IsWorded (name bytes : List ℕ) (words : List (List ℕ)) (line : List ℕ) : Type 0 where
  pub at : ℕ
  pub within : at ≤ length bytes
  pub is : line ≡ place_text name bytes at ++ (map within_line (concat words) ++ codes "\n")

-- it is the line of such a refusal
abbrev pub IsLine : Refusal → List ℕ → Type 0
IsLine (exactly told) line = line ≡ told
IsLine (placed name bytes) line = IsToldAt name bytes line
IsLine (worded name bytes words) line = IsWorded name bytes words line
