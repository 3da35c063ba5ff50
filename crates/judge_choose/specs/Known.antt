-- The laws below that the proofs here rest on: those of lines and histories, and of boxes.
use Rattle.model_logic.specs.IntervalLaws.{TheRuleOverABox}
use Rattle.model_logic.specs.Laws.{LineLaws}
use Rattle.model_line.specs.Laws.{DeclaredIntervalsAreInOrder, DelaysAreParameters}

pub record Known : Type 0 where
  pub lines : LineLaws
  pub ordered : DeclaredIntervalsAreInOrder
  pub delays : DelaysAreParameters
  pub held : TheRuleOverABox
