-- The laws below that the proofs here rest on: those of lines, histories and intervals, of boxes,
-- candidates and timings.
use Rattle.model_logic.specs.IntervalLaws.{ABoxWithAnotherInterval, AChangedIntervalChangesTheBox}
use Rattle.model_logic.specs.IntervalLaws.{HistoriesRestOnNoInterval, TheRuleOverABox}
use Rattle.model_logic.specs.Laws.{LineLaws}
use Rattle.model_line.specs.Laws.{CountsRestOnNoInterval, DeclaredIntervalsAreInOrder}
use Rattle.model_timing.specs.Laws.{CandidatesAreInside, TimingsInsideAreChoicesInside}

pub record Known : Type 0 where
  pub lines : LineLaws
  pub counts : CountsRestOnNoInterval
  pub histories : HistoriesRestOnNoInterval
  pub changed : AChangedIntervalChangesTheBox
  pub another : ABoxWithAnotherInterval
  pub intervals : DeclaredIntervalsAreInOrder
  pub held : TheRuleOverABox
  pub candidates : CandidatesAreInside
  pub timings : TimingsInsideAreChoicesInside
