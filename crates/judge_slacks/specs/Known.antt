-- The laws below that the proofs here rest on: those of lines and histories, of boxes, and of the
-- worst choice.
use Rattle.model_logic.specs.IntervalLaws.{TheRuleOverABox}
use Rattle.model_logic.specs.Laws.{LineLaws}
use Rattle.model_line.specs.Laws.{DeclaredIntervalsAreInOrder, DelaysAreParameters}
use Rattle.model_settle.specs.PolarityLaws.{TheWorstChoiceIsTheRail, TheWorstChoiceFails}
use Rattle.model_settle.specs.Schemes.{SchemesAreOneRailed}

pub record Known : Type 0 where
  pub lines : LineLaws
  pub ordered : DeclaredIntervalsAreInOrder
  pub delays : DelaysAreParameters
  pub held : TheRuleOverABox
  pub worst : TheWorstChoiceIsTheRail
  pub fails : TheWorstChoiceFails
  pub railed : SchemesAreOneRailed
