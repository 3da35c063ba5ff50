use Rattle.std.proofs.Common.{◌≡◌, ◌≤◌, ◌+◌, ◌*◌, ◌^◌, drop, map, sum}
use Rattle.file_study.specs.study.Faults.{stage_values}
use Rattle.file_study.specs.sweeps.Refusals.{greatest}
use Rattle.file_study.proofs.sweeps.needed.longest.Given as goal

abbrev pub invariant-loop-stage : goal.invariant-loop-stage
invariant-loop-stage l = record {
  total : l.ticks
      + sum (map (λ s. greatest s.lasts) (map stage_values (drop l.stage-index l.stages)))
      ≡ sum (map (λ s. greatest s.lasts) (map stage_values l.stages));
  small : l.ticks ≤ 2 ^ 32 * l.stage-index;
}
