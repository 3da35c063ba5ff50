use Rattle.model_borders.proofs.LaterTrees.{history_shifts}
use Rattle.model_borders.proofs.shift_laws.histories_shift.Goals as goal

pub returns : goal.returns
returns c n d line shown choice late h is_late is_h =
    history_shifts c.history_laws.ensures d line shown choice late is_late h n is_h
