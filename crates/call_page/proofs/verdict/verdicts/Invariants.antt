use Rattle.judge_verdict.specs.verdict.OneEach.{OneEach}
use Rattle.call_page.specs.Verdicts.{IsVerdictOf}
use Rattle.call_page.proofs.verdict.verdicts.Given as goal

abbrev pub invariant-loop-k : goal.invariant-loop-k
invariant-loop-k l =
    OneEach (IsVerdictOf l.known.study.now.line l.known.study.now.scripts.items l.known.rows.now
    l.known.firsts.now l.part.start l.part.count) l.k l.verdicts.items
