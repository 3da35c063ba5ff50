use Rattle.call_page.specs.Faults.{IsLeastSoFar}
use Rattle.call_page.proofs.worst.shown.Given as goal

abbrev pub invariant-loop-k : goal.invariant-loop-k
invariant-loop-k l =
    IsLeastSoFar l.known.study.now.line l.known.study.now.scripts.items l.known.rows.now
    l.known.firsts.now l.part.start l.part.count l.k l.shown l.least
