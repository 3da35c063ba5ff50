use Rattle.model_fine.proofs.SharedEnds.{shared_halves}
use Rattle.model_fine.proofs.fine_laws.parts_that_share_their_ends.Goals as goal

pub returns : goal.returns
returns c = shared_halves
