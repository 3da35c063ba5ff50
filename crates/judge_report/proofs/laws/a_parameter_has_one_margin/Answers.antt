use Rattle.judge_report.proofs.OneMargin.{one_margin}
use Rattle.judge_report.proofs.laws.a_parameter_has_one_margin.Goals as goal

pub returns : goal.returns
returns c = one_margin
