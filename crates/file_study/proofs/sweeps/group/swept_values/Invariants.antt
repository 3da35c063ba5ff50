use Rattle.std.proofs.Common.{◌≡◌, ◌++◌, ◌-◌, map}
use Rattle.file_study.specs.study.Faults.{fault_values}
use Rattle.file_study.specs.sweeps.Groups.{swept_from}
use Rattle.file_study.proofs.sweeps.group.swept_values.Given as goal

abbrev pub invariant-loop-k : goal.invariant-loop-k
invariant-loop-k l =
    map (λ w. w.items) l.all.items ++ swept_from (fault_values l.fault) l.k (l.n - l.k)
    ≡ swept_from (fault_values l.fault) 0 l.n
