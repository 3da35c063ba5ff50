use Rattle.judge_split.proofs.PartsLaws.{SoFar}
use Rattle.judge_split.proofs.parts.parts_of.Given as goal

abbrev pub invariant-loop-i : goal.invariant-loop-i
invariant-loop-i l = SoFar l.line l.param l.i l.parts.items
