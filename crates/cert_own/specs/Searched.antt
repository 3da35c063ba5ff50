-- What is searched of a script, and of several.
use Rattle.std.specs.Prelude.{◌≡◌, ℕ, List, map}
use Rattle.std.specs.List.{AllZip}
use Rattle.model_line.specs.{declared.line.Line.Line, declared.script.Script.Script}
use Rattle.model_line.specs.Parameters.{terminal_count}
use Rattle.judge_verdict.specs.verdict.OneEach.{OneEach}
use Rattle.judge_split.specs.{declared.node.Outcome.Outcome, Found.IsFound}
use Rattle.cert_split.specs.{text.Grammar.SplitResult, text.Piece.written_as}

-- the results are the outcomes of the searches to depth n, one for each terminal, as they are
-- written
pub record AreSearched (line : Line) (n : ℕ) (script : Script) (results : List SplitResult)
    : Type 0 where
  pub searches : List Outcome
  pub found : OneEach (λ k outcome. IsFound line script k n outcome) (terminal_count line) searches
  pub written : results ≡ map written_as searches

-- those of each script, in order
abbrev pub AllSearched : Line → ℕ → List Script → List (List SplitResult) → Type 0
AllSearched line n scripts parts = AllZip (AreSearched line n) scripts parts
