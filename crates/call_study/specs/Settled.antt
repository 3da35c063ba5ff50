-- What is written of settled obligations: their trees and timings, and the timings that fail.
use Rattle.std.specs.Prelude.{◌≡◌, ◌⊎◌, ℕ, List, [], ◌∷◌}
use Rattle.std.specs.List.{list_any}
use Rattle.model_line.specs.{declared.line.Line.Line, declared.script.Script.Script}
use Rattle.model_timing.specs.NamedValues.{NamedValues}
use Rattle.cert_claims.specs.declared.check.counts.Counts.{Counts}
use Rattle.cert_settle.specs.Check.{IsAccepted}
use Rattle.call_answer.specs.{Answers.Answers, Answers.status_by, declared.done.Done.Done}
use Rattle.call_tables.specs.{Rows.AreRows, Table.is_failing, Table.is_open}
use Rattle.call_tables.specs.Written.{IsTimingsText, failing_timings, trees_text}
use Rattle.call_tables.specs.declared.row.Row.{Row}

-- the text of answers that are so, one for each obligation; whoever checks it accepts it
pub record AreTrees (line : Line) (scripts : List Script) (status : Done) (text : List ℕ)
    : Type 0 where
  pub rows : List Row
  pub are : AreRows line scripts rows
  pub status_is : status ≡ status_by (list_any is_failing rows) (list_any is_open rows)
  pub text_is : text ≡ trees_text line scripts rows
  pub counts : Counts
  pub accepted : IsAccepted line scripts text counts

abbrev pub trees_answer : Line → List Script → Answers
trees_answer line scripts = AreTrees line scripts

-- there are none, and nothing is written; or a file of these timings
abbrev pub Failing : Line → Script → List NamedValues → List ℕ → Type 0
Failing line script timings text =
    ((timings ≡ []) × (text ≡ [])) ⊎ IsTimingsText line script timings text

-- those that answers to the obligations of a script have, each of which is so; the status is 1 where
-- one fails, else 2 where one is open, else 0
pub record AreFailing (line : Line) (script : Script) (status : Done) (text : List ℕ)
    : Type 0 where
  pub rows : List Row
  pub are : AreRows line (script ∷ []) rows
  pub status_is : status ≡ status_by (list_any is_failing rows) (list_any is_open rows)
  pub failing : Failing line script (failing_timings line rows 0) text

abbrev pub failing_answer : Line → Script → Answers
failing_answer line script = AreFailing line script
