use Rattle.std.proofs.Common.{◌≡◌, ◌++◌, drop, map}
use Rattle.file_study.specs.study.Faults.{stage_values}
use Rattle.file_study.specs.sweeps.Choices.{lasts_at}
use Rattle.file_study.proofs.sweeps.choice.lasts.Given as goal

abbrev pub invariant-loop-stage : goal.invariant-loop-stage
invariant-loop-stage l =
    l.values.items ++ lasts_at (map stage_values (drop l.stage-index l.stages)) l.left
    ≡ lasts_at (map stage_values l.stages) l.k
