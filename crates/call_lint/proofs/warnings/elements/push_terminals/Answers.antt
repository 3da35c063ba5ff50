use Rattle.call_lint.specs.warnings.Warnings.{terminal_warnings}
use Rattle.call_lint.proofs.warnings_lemmas.Lists.{grown}
use Rattle.call_lint.proofs.warnings.elements.push_terminals.Goals as goal

pub loop-k-preserved : goal.loop-k-preserved
loop-k-preserved c =
    grown _ _ _ _ (terminal_warnings c.args.line.now c.args.scripts.now) c.loop-k.invariant c.in_ok-push_terminal.ensures
