use Rattle.model_plain.specs.Roles.{coordinated}
use Rattle.model_plain.proofs.blocking.coordinated.Goals as goal

pub returns : goal.returns
unfolding coordinated
returns c parts =
    rw c.terminal_time-coordination.ensures.is at
    (c.timer.ensures parts _ (c.element_formula-zone2.ensures.is parts))
