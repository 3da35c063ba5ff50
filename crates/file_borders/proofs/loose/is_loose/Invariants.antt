use Rattle.std.proofs.Common.{◌≡◌, drop, map}
use Rattle.std.specs.List.{list_any}
use Rattle.file_study.specs.study.Faults.{StageValues, stage_values}
use Rattle.file_borders.proofs.loose.is_loose.Given as goal

abbrev pub invariant-loop-stage : goal.invariant-loop-stage
invariant-loop-stage l =
    list_any (λ (s : StageValues). s.between) (map stage_values (drop l.stage-index l.fault.stages.items))
    ≡ list_any (λ (s : StageValues). s.between) (map stage_values l.fault.stages.items)
