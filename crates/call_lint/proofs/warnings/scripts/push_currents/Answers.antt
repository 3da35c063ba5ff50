use Rattle.std.proofs.Common.{ℕ}
use Rattle.call_lint.specs.{warnings.Listed.told_if, warnings.ScriptTests.lacks_current}
use Rattle.call_lint.specs.declared.warnings.warning.Warning.TheVariants.{NoCurrent}
use Rattle.call_lint.proofs.warnings_lemmas.Lists.{grown}
use Rattle.call_lint.proofs.warnings.scripts.push_currents.Goals as goal

pub loop-k-preserved : goal.loop-k-preserved
loop-k-preserved c =
    grown _ _ _ _
    (λ (k : ℕ). told_if (lacks_current c.args.script.now k) (NoCurrent c.args.s k))
    c.loop-k.invariant c.in_ok-push_current.ensures
