-- The laws below that the proofs here rest on: those of lines, their parameters and their parts.
use Rattle.model_line.specs.Laws.{CountsRestOnNoInterval, DeclaredIntervalsAreInOrder}
use Rattle.model_line.specs.Laws.{ParametersAreNumbered}
use Rattle.model_line.specs.declared.line.Line.{Line}
use Rattle.model_names.specs.ParamNamesApart.{ParamNamesApart}
use Rattle.judge_split.specs.Laws.{APartStandsForItsBox, MiddlesAreBelowTheGreatestInterval}

pub record Known : Type 0 where
  pub counts : CountsRestOnNoInterval
  pub intervals : DeclaredIntervalsAreInOrder
  pub params : ParametersAreNumbered
  pub names : (line : Line) → ParamNamesApart line
  pub parts : APartStandsForItsBox
  pub middles : MiddlesAreBelowTheGreatestInterval
