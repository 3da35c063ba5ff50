-- The laws below that the proofs here rest on.
use Rattle.model_logic.specs.IntervalLaws.{SameBoxesHaveTheSameIntervalHistory, TheRuleOverABox}
use Rattle.model_logic.specs.IntervalLaws.{AChangedIntervalChangesTheBox}
use Rattle.model_logic.specs.Laws.{LineLaws}
use Rattle.model_line.specs.Laws.{CountsRestOnNoInterval, DeclaredIntervalsAreInOrder}
use Rattle.model_line.specs.Laws.{DelaysAreParameters}

pub record Known : Type 0 where
  pub counts : CountsRestOnNoInterval
  pub ordered : DeclaredIntervalsAreInOrder
  pub delays : DelaysAreParameters
  pub lines : LineLaws
  pub boxes : SameBoxesHaveTheSameIntervalHistory
  pub changed : AChangedIntervalChangesTheBox
  pub held : TheRuleOverABox
