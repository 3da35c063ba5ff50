use Rattle.std.proofs.Common.{◌≡◌, ◌++◌, drop, map}
use Rattle.file_study.specs.study.Faults.{fault_values, stage_values}
use Rattle.file_study.specs.sweeps.Choices.{choice_values}
use Rattle.file_study.specs.sweeps.Groups.{of_swept, values_in}
use Rattle.file_study.specs.sweeps.Sweeps.{times_of}
use Rattle.file_study.proofs.sweeps.group.swept.Given as goal

abbrev pub invariant-loop-i : goal.invariant-loop-i
invariant-loop-i l =
    l.values.items ++ of_swept (map (λ s. s.lasts) (map stage_values (drop l.i l.fault.stages.items)))
    (drop l.i l.choice.lasts.items)
    ≡ of_swept (times_of (fault_values l.fault)) (values_in (choice_values l.choice))
