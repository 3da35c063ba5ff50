-- What a page rests on: an answer to each obligation, and the first ticks of its trip.
use Rattle.std.specs.Prelude.{◌≡◌, ◌<◌, List, Some, slice_get}
use Rattle.model_line.specs.{declared.line.Line.Line, declared.script.Script.Script}
use Rattle.model_line.specs.Parameters.{terminal_count}
use Rattle.judge_settle.specs.settle.Answers.{IsAnswered}
use Rattle.call_tables.specs.{Rows.AreRows, declared.row.Row.Row}
use Rattle.call_answer.specs.Study.{IsAnyStudy}
use Rattle.call_facts.specs.FirstTicks.{AreFirsts}
use Rattle.call_page.specs.declared.known.Known.{Known}

-- a row is of a script and a terminal that there are, with the answer to their obligation
pub record IsRowOf (line : Line) (scripts : List Script) (row : Row) : Type 0 where
  pub script : Script
  pub at : slice_get scripts row.script ≡ Some script
  pub terminal : row.terminal < terminal_count line
  pub answered : IsAnswered line script row.terminal row.settled

-- the answers and first ticks of all obligations
pub record AreKnown (known : Known) : Type 0 where
  pub study : IsAnyStudy known.study.now
  pub rows : AreRows known.study.now.line known.study.now.scripts.items known.rows.now
  pub firsts : AreFirsts known.study.now.line known.study.now.scripts.items known.firsts.now
