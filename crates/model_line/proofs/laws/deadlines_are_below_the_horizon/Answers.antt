use Rattle.model_line.specs.DeadlineLaws.{deadline_early}
use Rattle.model_line.proofs.laws.deadlines_are_below_the_horizon.Goals as goal

pub returns : goal.returns
returns c line script fits = deadline_early line script fits
