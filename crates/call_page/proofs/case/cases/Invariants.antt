use Rattle.std.proofs.Common.{◌+◌}
use Rattle.judge_verdict.specs.verdict.OneEach.{OneEach}
use Rattle.call_page.specs.Faults.{IsCaseOf}
use Rattle.call_facts.specs.Lists.{At}
use Rattle.call_page.proofs.case.cases.Given as goal

abbrev pub invariant-loop-j : goal.invariant-loop-j
invariant-loop-j l =
    OneEach (λ j c. At l.known.study.now.scripts.items (l.part.start + j)
    (λ s. IsCaseOf l.known.study.now.line l.known.groups.now (l.part.start + j) s c))
    l.j l.cases.items
