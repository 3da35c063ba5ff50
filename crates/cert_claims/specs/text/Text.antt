-- The text that says something: the lines of the places, each with its line feed.
use Rattle.std.specs.Prelude.{◌≡◌, ◌++◌, ℕ, List, [], ◌∷◌, length}
use Rattle.std.specs.List.{All}
use Rattle.model_line.specs.{declared.line.Line.Line, declared.script.Script.Script}
use Rattle.base_text.specs.lines.Grammar.{text_places, text_said}
use Rattle.cert_claims.specs.text.Grammar.{Place, fixed, key_of, verdict_of, key_text, verdict_text}
use Rattle.cert_claims.specs.text.Grammar.{Said, says_nothing, says_key, says_verdict, Claims}
use Rattle.cert_claims.specs.text.Grammar.{part_places, part_said, script_parts, head_text, end_text}
use Rattle.cert_claims.specs.text.Grammar.{HasOneEach, HasNumbers}

-- the line that says this at that place; empty where nothing can say it there
abbrev pub line_text : Place → Said → List ℕ
line_text (fixed text) said = text
line_text (key_of name) says_nothing = []
line_text (key_of name) (says_key w) = key_text name w
line_text (key_of name) (says_verdict v) = []
line_text (verdict_of name) says_nothing = []
line_text (verdict_of name) (says_key w) = []
line_text (verdict_of name) (says_verdict v) = verdict_text name v

-- a line and its line feed
abbrev pub fed : List ℕ → List ℕ
fed line = line ++ 10 ∷ []

-- the lines at these places, one after another
abbrev pub lines_text : List Place → List Said → List ℕ
lines_text [] said = []
lines_text (place ∷ places) [] = []
lines_text (place ∷ places) (said ∷ more) = fed (line_text place said) ++ lines_text places more

-- a script's part of a certificate
abbrev pub part_text : Line → Script → Claims → List ℕ
part_text line script claims = lines_text (part_places line script) (part_said claims)

-- the parts of the scripts, one after another
abbrev pub parts_text : Line → List Script → List Claims → List ℕ
parts_text line [] claims = []
parts_text line (script ∷ scripts) [] = []
parts_text line (script ∷ scripts) (c ∷ claims) =
    part_text line script c ++ parts_text line scripts claims

-- the certificate of the scripts that claims this
abbrev pub certificate_text : Line → List Script → List Claims → List ℕ
certificate_text line scripts claims =
    lines_text (text_places (script_parts line) head_text scripts end_text)
    (text_said (script_parts line) claims)

-- what can be written of a script: waves of the horizon's length, and a number for each parameter
-- in each `no`
pub record CanBeWritten (line : Line) (claims : Claims) : Type 0 where
  pub each : HasOneEach line claims
  pub waves : All (λ wave. length wave ≡ line.horizon) claims.keys
  pub numbers : All (HasNumbers line) claims.verdicts
