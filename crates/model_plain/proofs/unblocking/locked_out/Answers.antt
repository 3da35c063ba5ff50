use Rattle.model_logic.specs.Unblocking.{locked_out}
use Rattle.model_plain.proofs.unblocking.locked_out.Goals as goal

pub returns : goal.returns
unfolding locked_out
returns c parts =
    rw c.channel_time-restore.ensures.is at (c.seal.ensures parts _ _ (c.late-closed.ensures parts)
    (c.not.ensures parts _ (c.timer-restored.ensures parts _ (c.guard_seen-guard.ensures parts))))
