use Rattle.std.proofs.Common.{◌*◌, ◌+◌}
use Rattle.model_line.specs.Parameters.{terminal_count}
use Rattle.judge_verdict.specs.verdict.OneEach.{OneEach}
use Rattle.call_verdicts.specs.Findings.{IsFinding}
use Rattle.call_verdicts.proofs.finding.push_settled.Given as goal

abbrev pub invariant-loop-k : goal.invariant-loop-k
invariant-loop-k l =
    OneEach (IsFinding l.cases.compiled.line.now l.cases.scripts.now)
    (l.i * terminal_count l.cases.compiled.line.now + l.k) l.found.items
