use Rattle.model_fine.proofs.SpanTreesMeet.{one_case}
use Rattle.model_fine.proofs.span_laws.each_history_is_of_one_case.Goals as goal

pub returns : goal.returns
returns c = one_case
