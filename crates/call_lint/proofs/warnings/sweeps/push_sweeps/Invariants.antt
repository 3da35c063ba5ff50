use Rattle.std.proofs.Common.{◌≡◌, ◌++◌, drop, map}
use Rattle.file_study.specs.study.Faults.{fault_values}
use Rattle.call_lint.specs.warnings.SweepTests.{sweep_warnings}
use Rattle.call_lint.proofs.warnings.sweeps.push_sweeps.Given as goal

abbrev pub invariant-loop-i : goal.invariant-loop-i
invariant-loop-i l =
    l.list.items ++ sweep_warnings l.i (map fault_values (drop l.i l.faults))
    ≡ l.initial.list.items ++ sweep_warnings 0 (map fault_values l.faults)
