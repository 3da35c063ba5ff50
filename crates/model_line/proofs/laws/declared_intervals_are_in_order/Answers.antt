use Rattle.model_line.proofs.DeclaredIntervals.{ends_at}
use Rattle.model_line.proofs.laws.declared_intervals_are_in_order.Goals as goal

pub returns : goal.returns
returns c = record {
  ordered = λ line i lt. (ends_at line i lt).0;
  within = λ line i lt. (ends_at line i lt).1;
}
