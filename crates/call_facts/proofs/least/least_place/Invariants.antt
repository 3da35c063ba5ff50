use Rattle.call_facts.specs.Least.{IsLeastSoFar}
use Rattle.call_facts.proofs.least.least_place.Given as goal

abbrev pub invariant-loop-i : goal.invariant-loop-i
invariant-loop-i l = IsLeastSoFar l.scripts l.firsts l.i l.least
