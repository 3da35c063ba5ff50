-- Verdicts that a text has in whole lines, and the obligation that each is of.
use Rattle.std.specs.Prelude.{◌≡◌, ◌<◌, ◌^◌, ℕ, List, Some, IsTrue, slice_get}
use Rattle.std.specs.List.{All}
use Rattle.model_line.specs.{declared.line.Line.Line, declared.script.Script.Script}
use Rattle.model_line.specs.{Parameters.terminal_count, PlainNames.is_plain_name}
use Rattle.model_line.specs.NamesByNumber.{terminal_name}
use Rattle.cert_claims.specs.text.Grammar.{Verdict, yes, no, undecided, verdict_text}
use Rattle.cert_own.specs.WholeLines.{StandsUnder, whole_lines}

-- the numbers of a `no` are of 32 bits, as are all that are written
abbrev pub HasShortNumbers : Verdict → Type 0
HasShortNumbers yes = Unit {0}
HasShortNumbers (no numbers) = All (λ n. n < 2 ^ 32) numbers
HasShortNumbers undecided = Unit {0}

-- the text has a whole line `verdict TERMINAL WORDS`, and the nearest script line before it is
-- `script NAME`
pub record HasVerdict (text name terminal : List ℕ) (verdict : Verdict) : Type 0 where
  pub plain : IsTrue (is_plain_name terminal)
  pub short : HasShortNumbers verdict
  pub stands : StandsUnder (whole_lines text) name (verdict_text terminal verdict)

-- this holds of the obligation of the script of that name at the terminal of that name
pub record HoldsOf (line : Line) (scripts : List Script) (name terminal : List ℕ)
    (Fact : Line → Script → ℕ → Type 0) : Type 0 where
  pub place : ℕ
  pub script : Script
  pub script_is : slice_get scripts place ≡ Some script
  pub name_is : script.name ≡ name
  pub k : ℕ
  pub exists : k < terminal_count line
  pub terminal_is : terminal_name line k ≡ terminal
  pub holds : Fact line script k
