use Rattle.model_fine.proofs.FineHistories.{delays_from_one, fine_exists, fine_once}
use Rattle.model_fine.proofs.fine_laws.each_fine_choice_has_one_history.Goals as goal

pub returns : goal.returns
returns c = record {
  delays = λ n line choice box some d within. delays_from_one n some line choice box d within;
  exists = λ n line script choice d.
      fine_exists c.history_laws.ensures c.line_laws.ensures.trees n line script choice d;
  only = λ n line script choice g h d is_g is_h.
      fine_once c.history_laws.ensures c.line_laws.ensures.trees n line script choice d g h is_g is_h;
}
