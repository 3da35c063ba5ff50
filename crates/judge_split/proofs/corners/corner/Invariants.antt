use Rattle.judge_split.proofs.CornerLaws.{CornerSoFar}
use Rattle.judge_split.proofs.corners.corner.Given as goal

abbrev pub invariant-loop-param : goal.invariant-loop-param
invariant-loop-param l = CornerSoFar l.line l.wide l.high l.but l.param l.corner
