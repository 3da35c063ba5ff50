use Rattle.model_logic.specs.Logic.{blocking_key}
use Rattle.model_plain.proofs.blocking.blocking_key.Goals as goal

pub returns : goal.returns
unfolding blocking_key
returns c parts =
    rw c.terminal_time-carry.ensures.is at (c.timer.ensures parts _ (c.and-behind.ensures parts _ _
    (c.element_formula-reverse.ensures.is parts) (c.not.ensures parts _ (c.element_formula-zone2.ensures.is parts))))
