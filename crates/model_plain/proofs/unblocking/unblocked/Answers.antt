use Rattle.std.proofs.Common.{refl}
use Rattle.model_logic.specs.Unblocking.{unblocked}
use Rattle.model_plain.proofs.unblocking.unblocked.Goals as goal

pub returns : goal.returns
unfolding unblocked
returns c parts =
    rw c.channel_time-pickup.ensures.is at (rw c.channel_to.ensures.is at (c.and.ensures parts _ _
    (c.timer-opened.ensures parts _ refl) (c.not.ensures parts _ (c.late-closed.ensures parts))))
