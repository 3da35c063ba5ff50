use Rattle.judge_margins.proofs.margins_lemmas.OneEnd.{one_end}
use Rattle.judge_margins.proofs.margins.laws.an_end_has_one_slack.Goals as goal

pub returns : goal.returns
returns c = one_end
