use Rattle.judge_match.proofs.matching_lemmas.OneMatch.{one_match}
use Rattle.judge_match.proofs.matching.laws.a_record_is_settled_once.Goals as goal

pub returns : goal.returns
returns c = one_match
