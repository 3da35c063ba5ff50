use Rattle.std.proofs.Common.{◌≡◌, ◌++◌}
use Rattle.call_lint.specs.{warnings.Listed.told_below, warnings.Warnings.time_warnings}
use Rattle.call_lint.proofs.warnings.times.push_times.Given as goal

abbrev pub invariant-loop-i : goal.invariant-loop-i
invariant-loop-i l =
    l.list.items ≡ l.initial.list.items ++ told_below l.i (time_warnings l.line l.exact)
