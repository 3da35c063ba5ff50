use Rattle.std.proofs.Common.{◌≡◌, ◌≤◌, IfSome, drop, map}
use Rattle.file_study.specs.study.Faults.{fault_values, stage_values}
use Rattle.file_study.specs.sweeps.Sweeps.{counted, count_of}
use Rattle.file_study.proofs.sweeps.sweep.count.Given as goal

abbrev pub invariant-loop-stage : goal.invariant-loop-stage
invariant-loop-stage l = record {
  counted : counted l.count
      (map (λ s. s.lasts) (map stage_values (drop l.stage-index l.fault.stages.items)))
      ≡ count_of (fault_values l.fault);
  few : IfSome l.count (λ n. n ≤ 4096);
}
