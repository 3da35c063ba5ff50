-- The laws below that the proofs here rest on: those of lines and histories, and of boxes and lines
-- that differ in their intervals.
use Rattle.model_logic.specs.IntervalLaws.{AChangedIntervalChangesTheBox, TheRuleOverABox}
use Rattle.model_logic.specs.Laws.{LineLaws}
use Rattle.model_line.specs.Laws.{CountsRestOnNoInterval}

pub record Known : Type 0 where
  pub lines : LineLaws
  pub counts : CountsRestOnNoInterval
  pub changed : AChangedIntervalChangesTheBox
  pub held : TheRuleOverABox
