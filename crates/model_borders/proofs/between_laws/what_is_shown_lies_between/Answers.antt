use Rattle.model_borders.proofs.LiesBetween.{lies_between}
use Rattle.model_borders.proofs.between_laws.what_is_shown_lies_between.Goals as goal

pub returns : goal.returns
returns c n script part a place certain perhaps x d line box some two are at =
    lies_between c.history_laws.ensures n script part a place certain perhaps x d line box some two are at
