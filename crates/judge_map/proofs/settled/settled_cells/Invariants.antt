use Rattle.judge_map.specs.Cells.{AreSettledBelow}
use Rattle.judge_map.proofs.settled.settled_cells.Given as goal

abbrev pub invariant-loop-n : goal.invariant-loop-n
invariant-loop-n l = AreSettledBelow l.line l.scripts l.axes l.n l.settled.items
