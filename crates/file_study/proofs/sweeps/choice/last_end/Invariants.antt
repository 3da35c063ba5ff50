use Rattle.std.proofs.Common.{◌≡◌, ◌≤◌, ◌+◌, ◌*◌, ◌^◌, drop, sum}
use Rattle.file_study.proofs.sweeps.choice.last_end.Given as goal

abbrev pub invariant-loop-stage : goal.invariant-loop-stage
invariant-loop-stage l = record {
  total : l.tick + sum (drop l.stage-index l.lasts) ≡ l.start + sum l.lasts;
  small : l.tick ≤ 2 ^ 32 * (l.stage-index + 1);
}
