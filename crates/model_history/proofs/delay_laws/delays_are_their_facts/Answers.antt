use Rattle.model_history.proofs.DelayLaws.{Decides-delayed, Decides-must, Decides-may}
use Rattle.model_history.proofs.delay_laws.delays_are_their_facts.Goals as goal

pub returns : goal.returns
returns c = record {
  delayed = Decides-delayed;
  must = λ u c t. Decides-must u (c t) t;
  may = λ u c t. Decides-may u (c t) t;
}
