use Rattle.std.proofs.Common.{◌*◌, ◌+◌}
use Rattle.model_line.specs.Parameters.{terminal_count}
use Rattle.judge_verdict.specs.verdict.OneEach.{OneEach}
use Rattle.call_facts.specs.FirstTicks.{AreFirstOf}
use Rattle.call_facts.proofs.firsts.push_script.Given as goal

abbrev pub invariant-loop-k : goal.invariant-loop-k
invariant-loop-k l =
    OneEach (AreFirstOf l.study.line l.study.scripts.items)
    (l.i * terminal_count l.study.line + l.k) l.firsts.items
