-- The laws below that the proofs here rest on: those of lines and histories, of candidates, timings
-- and intervals.
use Rattle.model_line.specs.Laws.{CountsRestOnNoInterval, DeclaredIntervalsAreInOrder}
use Rattle.model_logic.specs.IntervalLaws.{HistoriesRestOnNoInterval, TheRuleOverABox}
use Rattle.model_logic.specs.Laws.{LineLaws}
use Rattle.model_timing.specs.Laws.{CandidatesAreInside, TimingsInsideAreChoicesInside}

pub record Known : Type 0 where
  pub lines : LineLaws
  pub candidates : CandidatesAreInside
  pub timings : TimingsInsideAreChoicesInside
  pub intervals : DeclaredIntervalsAreInOrder

pub record LinesKnown : Type 0 where
  pub lines : LineLaws
  pub counts : CountsRestOnNoInterval
  pub histories : HistoriesRestOnNoInterval

pub record BoxesKnown : Type 0 where
  pub lines : LineLaws
  pub intervals : DeclaredIntervalsAreInOrder
  pub held : TheRuleOverABox
  pub candidates : CandidatesAreInside
  pub timings : TimingsInsideAreChoicesInside
