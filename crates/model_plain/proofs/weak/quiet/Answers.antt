use Rattle.model_logic.specs.Permissive.{quiet}
use Rattle.model_plain.proofs.weak.quiet.Goals as goal

pub returns : goal.returns
unfolding quiet
returns c parts =
    rw c.terminal_time-block.ensures.is at (c.not.ensures parts _ (c.timer.ensures parts _
    (c.or-fault.ensures parts _ _ (c.element_formula-zone2.ensures.is parts) (c.element_formula.ensures.is parts))))
