use Rattle.judge_split.specs.Quiet.{AreCorners}
use Rattle.judge_split.proofs.corners.corners.Given as goal

abbrev pub invariant-loop-but : goal.invariant-loop-but
invariant-loop-but l = AreCorners l.line l.wide l.but l.corners.items
