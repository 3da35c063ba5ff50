use Rattle.model_logic.specs.Logic.{transfer_pilot}
use Rattle.model_plain.proofs.transfer.transfer_pilot.Goals as goal

pub returns : goal.returns
unfolding transfer_pilot
returns c parts =
    rw c.terminal_time-security.ensures.is at (c.timer.ensures parts _ (c.any_received-sent.ensures parts))
