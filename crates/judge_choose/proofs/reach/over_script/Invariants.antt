use Rattle.std.proofs.Common.{◌≡◌, ◌*◌, length}
use Rattle.judge_choose.proofs.reach.over_script.Given as goal

abbrev pub invariant-loop : goal.invariant-loop
invariant-loop l = length l.narrowed.items ≡ 2 * length l.settings
