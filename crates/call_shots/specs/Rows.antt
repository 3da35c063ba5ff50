-- What is expected of each relay in each shot.
use Rattle.std.specs.Prelude.{◌≡◌, ◌<◌, ◌+◌, ◌*◌, ℕ, List, Some, length, slice_get}
use Rattle.model_line.specs.{declared.line.Line.Line, declared.script.Script.Script}
use Rattle.model_line.specs.Parameters.{terminal_count}
use Rattle.judge_verdict.specs.verdict.OneEach.{OneEach}
use Rattle.call_verdicts.specs.declared.finding.Finding.{Finding}
use Rattle.call_shots.specs.Windows.{IsWindow}
use Rattle.call_shots.specs.declared.rows.Row.{Row}

-- row i in the order of the shots, and in each its terminals in line order: the windows are those of
-- the script of the shot
pub record IsRow (line : Line) (scripts : List Script) (shots : List Finding) (i : ℕ) (row : Row)
    : Type 0 where
  pub shot : ℕ
  pub number : row.number ≡ shot + 1
  pub at : slice_get shots shot ≡ Some row.found
  pub script : Script
  pub script_at : slice_get scripts row.found.script ≡ Some script
  pub terminal : row.terminal < terminal_count line
  pub place : i ≡ shot * terminal_count line + row.terminal
  pub window : IsWindow line script row.terminal row.window

-- one for each shot and terminal
abbrev pub AreRows : Line → List Script → List Finding → List Row → Type 0
AreRows line scripts shots rows =
    OneEach (IsRow line scripts shots) (length shots * terminal_count line) rows
