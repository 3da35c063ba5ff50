-- The command `split`: the parts of the declared box in which each obligation is decided.
use Rattle.std.specs.Prelude.{◌≡◌, ◌++◌, ℕ, Bool, List, map}
use Rattle.model_line.specs.{declared.line.Line.Line, declared.script.Script.Script}
use Rattle.judge_split.specs.declared.node.Outcome.{Outcome}
use Rattle.cert_claims.specs.check.Counts.{is_no, is_undecided}
use Rattle.cert_split.specs.{text.Grammar.SplitResult, text.Text.part_text, text.Text.split_text}
use Rattle.cert_split.specs.text.Piece.{written_as}
use Rattle.cert_split.specs.check.Counts.{verdict_of, all_verdicts}
use Rattle.cert_own.specs.Searched.{AllSearched, AreSearched}
use Rattle.call_pilot.specs.{commands.Verdicts.IsFoundOf, commands.Verdicts.verdicts_status}
use Rattle.call_answer.specs.Answers.{Answers}
use Rattle.call_pilot.specs.declared.commands.found.Found.{Found}
use Rattle.call_answer.specs.declared.done.Done.{Done}

-- the text of what is searched of the scripts, with the status of the verdicts it comes to
pub record IsSplitOf (line : Line) (scripts : List Script) (n : ℕ) (s : Done) (text : List ℕ)
    : Type 0 where
  pub parts : List (List SplitResult)
  pub searched : AllSearched line n scripts parts
  pub status_is : s ≡ verdicts_status (all_verdicts parts)
  pub text_is : text ≡ split_text line scripts parts

abbrev pub split_answer : Line → List Script → ℕ → Answers
split_answer line scripts n = IsSplitOf line scripts n

-- ---- the text as it is made

-- whether what is found comes to a no, and whether it is left undecided
unfoldable pub comes_to_no : Outcome → Bool
comes_to_no outcome = is_no (verdict_of (written_as outcome))

unfoldable pub is_left_open : Outcome → Bool
is_left_open outcome = is_undecided (verdict_of (written_as outcome))

-- a text has more by the part of what is searched of a script, and what is found is told
pub record HasSplits (line : Line) (n : ℕ) (script : Script) (old new : List ℕ) (told : Found)
    : Type 0 where
  pub results : List SplitResult
  pub searched : AreSearched line n script results
  pub found : IsFoundOf (map verdict_of results) told
  pub text_is : new ≡ old ++ part_text line script results
