use Rattle.std.proofs.Common.{◌*◌}
use Rattle.model_line.specs.Parameters.{terminal_count}
use Rattle.judge_verdict.specs.verdict.OneEach.{OneEach}
use Rattle.call_tables.specs.Rows.{IsRow}
use Rattle.call_tables.proofs.rows.settle_all.Given as goal

abbrev pub invariant-loop-i : goal.invariant-loop-i
invariant-loop-i l =
    OneEach (IsRow l.study.line l.study.scripts.items) (l.i * terminal_count l.study.line)
    l.rows.items
