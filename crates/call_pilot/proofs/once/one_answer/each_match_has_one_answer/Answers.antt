use Rattle.call_pilot.proofs.once_lemmas.OneMatch.{match_once}
use Rattle.call_pilot.proofs.once.one_answer.each_match_has_one_answer.Goals as goal

pub returns : goal.returns
returns c = λ line scripts. match_once c.a_record_is_settled_once.ensures line scripts
