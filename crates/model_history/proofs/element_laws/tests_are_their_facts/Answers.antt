use Rattle.std.specs.Prelude.{IsTrue}
use Rattle.model_history.proofs.ElementLaws.{Decides-every, Decides-some}
use Rattle.model_history.proofs.element_laws.tests_are_their_facts.Goals as goal
use Rattle.model_history.specs.TruthLaws.{Decides-true}

pub returns : goal.returns
returns c = record {
  every = λ q n. Decides-every q (λ k. IsTrue (q k)) n (λ k. Decides-true (q k));
  some = λ q n. Decides-some q (λ k. IsTrue (q k)) n (λ k. Decides-true (q k));
}
