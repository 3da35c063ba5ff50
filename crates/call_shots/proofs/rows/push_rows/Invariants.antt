use Rattle.std.proofs.Common.{◌*◌, ◌+◌}
use Rattle.model_line.specs.Parameters.{terminal_count}
use Rattle.judge_verdict.specs.verdict.OneEach.{OneEach}
use Rattle.call_shots.specs.Rows.{IsRow}
use Rattle.call_shots.proofs.rows.push_rows.Given as goal

abbrev pub invariant-loop-k : goal.invariant-loop-k
invariant-loop-k l =
    OneEach (IsRow l.cases.compiled.line.now l.cases.scripts.now l.shots)
    (l.i * terminal_count l.cases.compiled.line.now + l.k) l.rows.items
