use Rattle.model_logic.specs.Logic.{blocking_pilot}
use Rattle.model_plain.specs.Roles.{coordinated}
use Rattle.model_plain.proofs.blocking.blocking_pilot.Goals as goal

pub returns : goal.returns
unfolding blocking_pilot coordinated
returns c parts =
    c.and.ensures parts _ _ (c.coordinated-waited.ensures parts)
    (c.not.ensures parts _ (c.any_received-blocked.ensures parts))
