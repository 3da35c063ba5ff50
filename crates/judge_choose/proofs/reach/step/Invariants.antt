use Rattle.std.proofs.Common.{◌≡◌, length}
use Rattle.judge_choose.proofs.reach.step.Given as goal

abbrev pub invariant-loop-i : goal.invariant-loop-i
invariant-loop-i l = length l.more.items ≡ l.i
