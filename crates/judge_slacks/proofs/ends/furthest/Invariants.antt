use Rattle.judge_slacks.specs.Lacks.{IsShort}
use Rattle.judge_slacks.proofs.ends.furthest.Given as goal

abbrev pub invariant-loop-i : goal.invariant-loop-i
invariant-loop-i l = IsShort l.needs l.i l.short
