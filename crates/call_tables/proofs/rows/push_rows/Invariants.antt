use Rattle.std.proofs.Common.{◌≡◌, ◌*◌, ◌+◌, ◌++◌, List, Some, length}
use Rattle.std.specs.Prelude.{slice_get}
use Rattle.std.specs.Vec.Iter.{into_iter_items, into_iter_len}
use Rattle.model_line.specs.{declared.line.Line.Line, declared.script.Script.Script}
use Rattle.model_line.specs.Parameters.{terminal_count}
use Rattle.judge_verdict.specs.verdict.OneEach.{OneEach}
use Rattle.judge_settle.specs.settle.Answers.{AreAnswers}
use Rattle.call_tables.specs.Rows.{IsRow}
use Rattle.call_tables.proofs.rows.push_rows.Given as goal

abbrev pub invariant-loop-one : goal.invariant-loop-one
invariant-loop-one l = record {
  items : l.yielded ++ into_iter_items l.one-iterator ≡ l.fn.settled.items;
  count : into_iter_len l.one-iterator ≡ length (into_iter_items l.one-iterator);
  terminal : l.terminal ≡ length l.yielded;
  rows : (line : Line) (scripts : List Script) (s : Script)
      → slice_get scripts l.script ≡ Some s
      → AreAnswers line s l.fn.settled.items
      → OneEach (IsRow line scripts) (l.script * terminal_count line) l.initial.rows.items
      → OneEach (IsRow line scripts) (l.script * terminal_count line + l.terminal) l.rows.items;
}
