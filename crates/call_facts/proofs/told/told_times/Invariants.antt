use Rattle.call_facts.specs.Told.{IsToldTime, is_told}
use Rattle.call_facts.specs.Lists.{EachOf, those_below}
use Rattle.call_facts.proofs.told.told_times.Given as goal

abbrev pub invariant-loop-i : goal.invariant-loop-i
invariant-loop-i l =
    EachOf (IsToldTime l.line l.timing) (those_below (is_told l.line l.timing) l.i) l.told.items
