use Rattle.judge_margins.specs.map.Placed.{IsPlaced}
use Rattle.judge_margins.proofs.map.intervals.placed.Given as goal

abbrev pub invariant-loop-i : goal.invariant-loop-i
invariant-loop-i l = IsPlaced l.line l.params l.least l.i l.other
