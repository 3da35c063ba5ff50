use Rattle.model_timing.proofs.CandidatesInside.{candidate_inside}
use Rattle.model_timing.proofs.laws.candidates_are_inside.Goals as goal

pub returns : goal.returns
returns c line index below = candidate_inside line index
