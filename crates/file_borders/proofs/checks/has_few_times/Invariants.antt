use Rattle.std.proofs.Common.{◌≡◌, drop, length, map, nat_le}
use Rattle.file_study.specs.study.Faults.{stage_values}
use Rattle.file_borders.specs.Drawn.{part_of}
use Rattle.file_borders.proofs.checks.has_few_times.Given as goal

abbrev pub invariant-loop-stage : goal.invariant-loop-stage
invariant-loop-stage l =
    nat_le (length (part_of (map stage_values (drop l.stage-index l.stages)))) l.left
    ≡ nat_le (length (part_of (map stage_values l.stages))) l.most
