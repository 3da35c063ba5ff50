use Rattle.model_plain.proofs.weak.wanted_with.Goals as goal

pub returns : goal.returns
returns c parts t is =
    rw c.terminal_time-pickup.ensures.is at (c.timer.ensures parts _
    (c.and-permitted.ensures parts _ _ is (c.quiet.ensures parts)))
