use Rattle.std.proofs.Common.{ℕ}
use Rattle.std.specs.Prelude.{slice_get}
use Rattle.call_lint.specs.warnings.Warnings.{script_warnings}
use Rattle.call_lint.proofs.warnings_lemmas.Lists.{grown}
use Rattle.call_lint.proofs.warnings.scripts.push_scripts.Goals as goal

pub loop-s-preserved : goal.loop-s-preserved
loop-s-preserved c =
    grown _ _ _ _
    (λ (s : ℕ). script_warnings c.args.line.now s (slice_get c.args.scripts.now s))
    c.loop-s.invariant c.in_ok-push_script_at.ensures
