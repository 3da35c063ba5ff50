use Rattle.run_signal.proofs.SealLaws.{seal_of_standing}
use Rattle.run_signal.proofs.laws.a_seal_is_its_last_answer.Goals as goal

pub returns : goal.returns
returns c = seal_of_standing
