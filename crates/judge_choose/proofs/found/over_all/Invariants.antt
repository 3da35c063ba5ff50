use Rattle.std.proofs.Common.{◌≡◌, ◌*◌, length}
use Rattle.judge_choose.proofs.found.over_all.Given as goal

abbrev pub invariant-loop-s : goal.invariant-loop-s
invariant-loop-s l = length l.reaches.items ≡ 2 * length l.settings
