use Rattle.std.proofs.Common.{◌≡◌, ◌++◌}
use Rattle.std.specs.Prelude.{slice_get}
use Rattle.call_lint.specs.{warnings.Listed.told_below, warnings.Warnings.script_warnings}
use Rattle.call_lint.proofs.warnings.scripts.push_scripts.Given as goal

abbrev pub invariant-loop-s : goal.invariant-loop-s
invariant-loop-s l =
    l.list.items ≡ l.initial.list.items
    ++ told_below l.s (λ s. script_warnings l.line s (slice_get l.scripts s))
