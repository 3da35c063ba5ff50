use Rattle.call_verdicts.proofs.Worsts.{IsWorstOf}
use Rattle.call_verdicts.proofs.worst.worst_place.Given as goal

abbrev pub invariant-loop-i : goal.invariant-loop-i
invariant-loop-i l = IsWorstOf l.horizon l.verdicts l.i l.worst
