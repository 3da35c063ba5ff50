use Rattle.std.proofs.Common.{◌≡◌, drop, map}
use Rattle.std.specs.List.{list_all}
use Rattle.file_study.specs.study.Faults.{stage_values}
use Rattle.file_borders.specs.Loose.{comes_in_time}
use Rattle.file_borders.proofs.checks.all_come_in_time.Given as goal

abbrev pub invariant-loop-stage : goal.invariant-loop-stage
invariant-loop-stage l =
    list_all comes_in_time (map stage_values (drop l.stage-index l.stages))
    ≡ list_all comes_in_time (map stage_values l.stages)
