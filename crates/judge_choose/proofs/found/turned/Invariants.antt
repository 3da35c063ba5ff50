use Rattle.std.proofs.Common.{◌≡◌, length}
use Rattle.judge_choose.proofs.found.turned.Given as goal

abbrev pub invariant-loop-lane : goal.invariant-loop-lane
invariant-loop-lane l = length l.turned.items ≡ l.lane
