-- What the command `settle` answers.
use Rattle.std.specs.Prelude.{◌≡◌, ℕ, List}
use Rattle.std.specs.List.{list_any}
use Rattle.model_line.specs.{declared.line.Line.Line, declared.script.Script.Script}
use Rattle.call_answer.specs.{Answers.Answers, Answers.status_by, declared.done.Done.Done}
use Rattle.call_tables.specs.{Rows.AreRows, Table.is_failing, Table.is_open, Table.table_text}
use Rattle.call_tables.specs.declared.row.Row.{Row}

-- the table of these rows, with the status that goes with it
pub record IsTableOf (line : Line) (scripts : List Script) (rows : List Row) (status : Done)
    (text : List ℕ) : Type 0 where
  pub status_is : status ≡ status_by (list_any is_failing rows) (list_any is_open rows)
  pub text_is : text ≡ table_text line scripts rows

-- a table in which each obligation has an answer that is so; which one it is, where more than one
-- can be found, is left free
pub record IsSettled (line : Line) (scripts : List Script) (status : Done) (text : List ℕ)
    : Type 0 where
  pub rows : List Row
  pub are : AreRows line scripts rows
  pub table : IsTableOf line scripts rows status text

abbrev pub settle_answer : Line → List Script → Answers
settle_answer line scripts = IsSettled line scripts
