use Rattle.std.proofs.Common.{◌≡◌, ◌++◌}
use Rattle.call_lint.specs.{warnings.Listed.told_below, warnings.Listed.told_if, warnings.ScriptTests.lacks_current}
use Rattle.call_lint.specs.declared.warnings.warning.Warning.TheVariants.{NoCurrent}
use Rattle.call_lint.proofs.warnings.scripts.push_currents.Given as goal

abbrev pub invariant-loop-k : goal.invariant-loop-k
invariant-loop-k l =
    l.list.items ≡ l.initial.list.items
    ++ told_below l.k (λ k. told_if (lacks_current l.script k) (NoCurrent l.s k))
