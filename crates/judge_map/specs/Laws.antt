-- The laws below that the proofs here rest on: those of lines and histories, of boxes, of lines that
-- differ in their intervals, and of the worst choice.
use Rattle.model_line.specs.Laws.{CountsRestOnNoInterval, DeclaredIntervalsAreInOrder, DelaysAreParameters}
use Rattle.model_logic.specs.IntervalLaws.{HistoriesRestOnNoInterval, SameBoxesHaveTheSameIntervalHistory}
use Rattle.model_logic.specs.Laws.{LineLaws}
use Rattle.model_fine.specs.Laws.{WholeTicksAreTheCaseOfOne}
use Rattle.model_settle.specs.PolarityLaws.{TheWorstChoiceIsTheRail, TheWorstChoiceFails}
use Rattle.model_settle.specs.Schemes.{SchemesAreOneRailed}
use Rattle.model_timing.specs.Laws.{TimingsInsideAreChoicesInside}
use Rattle.judge_margins.specs.map.MapLaws.{ACellIsOfThePlacedLine}

pub record Laws : Type 0 where
  pub lines : LineLaws
  pub counts : CountsRestOnNoInterval
  pub ordered : DeclaredIntervalsAreInOrder
  pub delays : DelaysAreParameters
  pub histories : HistoriesRestOnNoInterval
  pub boxes : SameBoxesHaveTheSameIntervalHistory
  pub whole : WholeTicksAreTheCaseOfOne
  pub worst : TheWorstChoiceIsTheRail
  pub fails : TheWorstChoiceFails
  pub railed : SchemesAreOneRailed
  pub timings : TimingsInsideAreChoicesInside
  pub cells : ACellIsOfThePlacedLine
