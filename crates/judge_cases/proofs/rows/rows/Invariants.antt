use Rattle.std.proofs.Common.{◌*◌}
use Rattle.judge_cases.specs.Rows.{AreRows}
use Rattle.judge_cases.proofs.rows.rows.Given as goal

abbrev pub invariant-loop-terminal : goal.invariant-loop-terminal
invariant-loop-terminal l =
    AreRows l.compiled.line.now l.compiled.net.now (l.terminal * 2) l.rows.items
