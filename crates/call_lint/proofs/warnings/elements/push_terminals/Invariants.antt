use Rattle.std.proofs.Common.{◌≡◌, ◌++◌}
use Rattle.call_lint.specs.{warnings.Listed.told_below, warnings.Warnings.terminal_warnings}
use Rattle.call_lint.proofs.warnings.elements.push_terminals.Given as goal

abbrev pub invariant-loop-k : goal.invariant-loop-k
invariant-loop-k l =
    l.list.items ≡ l.initial.list.items ++ told_below l.k (terminal_warnings l.line l.scripts)
