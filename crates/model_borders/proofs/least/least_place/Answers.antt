use Rattle.std.proofs.Common.{◌∙◌}
use Rattle.model_borders.proofs.Leasts.{stands_least}
use Rattle.model_borders.proofs.least.least_place.Goals as goal

pub returns-clause-place : goal.returns-clause-place
returns-clause-place c =
    c.earliest_place.ensures.place ∙ stands_least c.args.borders.now c.args.part.now c.args.border
