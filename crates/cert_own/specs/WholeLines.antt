-- The whole lines of a text, and what stands under which script.
use Rattle.std.specs.Prelude.{◌≡◌, ◌++◌, ℕ, List, [], ◌∷◌, if◌then◌else◌}
use Rattle.std.specs.List.{All}
use Rattle.base_text.specs.lines.Lines.{is_feed}
use Rattle.cert_claims.specs.text.Grammar.{script_text}

-- the whole lines of a text, after what its first line has already
abbrev pub lines_from : List ℕ → List ℕ → List (List ℕ)
lines_from line [] = []
lines_from line (byte ∷ text) =
    if is_feed byte then line ∷ lines_from [] text else lines_from (line ++ byte ∷ []) text

-- the lines of a text, each that ends with a line feed, without it
abbrev pub whole_lines : List ℕ → List (List ℕ)
whole_lines text = lines_from [] text

-- it is a line `script NAME`
abbrev pub IsScriptLine : List ℕ → Type 0
IsScriptLine line = (name : List ℕ) × (line ≡ script_text name)

-- this line stands among the lines, and the nearest script line before it is `script NAME`
pub record StandsUnder (lines : List (List ℕ)) (name line : List ℕ) : Type 0 where
  pub before : List (List ℕ)
  pub between : List (List ℕ)
  pub after : List (List ℕ)
  pub nearest : All (λ other. ¬ (IsScriptLine other)) between
  pub lines_are : lines ≡ before ++ script_text name ∷ (between ++ line ∷ after)
