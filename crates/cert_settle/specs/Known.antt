-- The laws below that the proofs here rest on: those of lines and their parameters.
use Rattle.model_line.specs.Laws.{CountsRestOnNoInterval, DeclaredIntervalsAreInOrder}
use Rattle.model_line.specs.Laws.{DelaysAreParameters}
use Rattle.model_line.specs.declared.line.Line.{Line}
use Rattle.model_names.specs.ParamNamesApart.{ParamNamesApart}

pub record Known : Type 0 where
  pub counts : CountsRestOnNoInterval
  pub intervals : DeclaredIntervalsAreInOrder
  pub delays : DelaysAreParameters
  pub names : (line : Line) → ParamNamesApart line
