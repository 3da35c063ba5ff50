use Rattle.std.proofs.Common.{◌≡◌, ◌+◌}
use Rattle.judge_verdict.specs.verdict.OneEach.{OneEach}
use Rattle.call_page.specs.Verdicts.{standing_of}
use Rattle.call_facts.specs.{FirstTicks.place, Lists.At}
use Rattle.call_page.proofs.verdict.standings.Given as goal

abbrev pub invariant-loop-j : goal.invariant-loop-j
invariant-loop-j l =
    OneEach
    (λ j x. At l.known.rows.now (place l.known.study.now.line (l.part.start + j) l.terminal)
    (λ row. x ≡ standing_of row.settled.answer)) l.j l.standings.items
