-- What is known of all obligations, one row for each.
use Rattle.std.specs.Prelude.{◌≡◌, ◌<◌, ◌+◌, ◌*◌, ℕ, List, Some, length, slice_get}
use Rattle.model_line.specs.{declared.line.Line.Line, declared.script.Script.Script}
use Rattle.model_line.specs.Parameters.{terminal_count}
use Rattle.judge_verdict.specs.verdict.OneEach.{OneEach}
use Rattle.judge_settle.specs.settle.Answers.{IsAnswered}
use Rattle.call_tables.specs.declared.row.Row.{Row}

-- row i in the order of the report, script by script and in each its terminals in line order, with
-- what is known of that obligation
pub record IsRow (line : Line) (scripts : List Script) (i : ℕ) (row : Row) : Type 0 where
  pub script : Script
  pub at : slice_get scripts row.script ≡ Some script
  pub terminal : row.terminal < terminal_count line
  pub place : i ≡ row.script * terminal_count line + row.terminal
  pub answered : IsAnswered line script row.terminal row.settled

-- a row for each obligation
abbrev pub AreRows : Line → List Script → List Row → Type 0
AreRows line scripts rows =
    OneEach (IsRow line scripts) (length scripts * terminal_count line) rows
