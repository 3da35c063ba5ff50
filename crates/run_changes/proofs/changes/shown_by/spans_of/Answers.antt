use Rattle.std.proofs.Common.{sym, subst}
use Rattle.run_step.specs.Shown.{IsShown}
use Rattle.run_changes.proofs.changes.shown_by.spans_of.Goals as goal

pub returns-in-Seen : goal.returns-in-Seen
returns-in-Seen c = λ w shown.
    subst (λ x. IsShown x w c.args.gate.now) (sym c.of.ensures) shown

pub returns-in-Loss : goal.returns-in-Loss
returns-in-Loss c = λ w shown.
    subst (λ x. IsShown x w c.args.gate.now) (sym c.of-in-Loss.ensures) shown
