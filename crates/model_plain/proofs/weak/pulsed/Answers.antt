use Rattle.model_plain.proofs.weak.pulsed.Goals as goal

pub returns : goal.returns
returns c parts t is again =
    rw c.terminal_time-pulse.ensures.is at
    (c.and.ensures parts _ _ is (c.not.ensures parts _ (c.timer-over.ensures parts _ again)))
