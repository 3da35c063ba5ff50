use Rattle.model_settle.proofs.Walks.{walk_tells}
use Rattle.model_settle.proofs.polarity_laws.the_walk_tells_the_sides.Goals as goal

pub returns : goal.returns
returns c = walk_tells
