use Rattle.std.proofs.Common.{◌≡◌, ◌++◌, drop, map}
use Rattle.file_study.specs.study.Faults.{stage_values}
use Rattle.call_lint.specs.warnings.SweepTests.{stage_sweeps}
use Rattle.call_lint.proofs.warnings.sweeps.push_stages.Given as goal

abbrev pub invariant-loop-s : goal.invariant-loop-s
invariant-loop-s l =
    l.list.items ++ stage_sweeps l.i l.s (map stage_values (drop l.s l.stages))
    ≡ l.initial.list.items ++ stage_sweeps l.i 0 (map stage_values l.stages)
