use Rattle.call_lint.specs.warnings.Warnings.{time_warnings}
use Rattle.call_lint.proofs.warnings_lemmas.Lists.{grown}
use Rattle.call_lint.proofs.warnings.times.push_times.Goals as goal

pub loop-i-preserved : goal.loop-i-preserved
loop-i-preserved c =
    grown _ _ _ _ (time_warnings c.args.line.now c.args.exact.now) c.loop-i.invariant c.in_ok-push_time.ensures
