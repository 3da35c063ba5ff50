use Rattle.std.proofs.Common.{◌≡◌, ◌≤◌, drop, map, nat_le}
use Rattle.file_study.specs.study.Faults.{stage_values}
use Rattle.file_borders.specs.Drawn.{borders_of}
use Rattle.file_borders.proofs.checks.has_few_borders.Given as goal

abbrev pub invariant-loop-stage : goal.invariant-loop-stage
invariant-loop-stage l = record {
  is : nat_le (borders_of (map stage_values (drop l.stage-index l.stages))) l.left
      ≡ nat_le (borders_of (map stage_values l.stages)) l.most;
  few : l.left ≤ l.most;
}
