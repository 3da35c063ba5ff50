use Rattle.judge_verdict.specs.verdict.OneEach.{OneEach}
use Rattle.call_facts.specs.Times.{IsTimeOf}
use Rattle.call_facts.proofs.slacks.times.Given as goal

abbrev pub invariant-loop-i : goal.invariant-loop-i
invariant-loop-i l =
    OneEach (IsTimeOf l.study.line l.study.scripts.items l.today.held.items) l.i l.times.items
