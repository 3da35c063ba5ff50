use Rattle.judge_choose.specs.Asked.{AreAskedBelow}
use Rattle.judge_choose.proofs.asks.asked.Given as goal

abbrev pub invariant-loop-lane : goal.invariant-loop-lane
invariant-loop-lane l = AreAskedBelow l.candidates l.lane l.asked.items
