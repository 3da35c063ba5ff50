use Rattle.model_fine.proofs.CutHistories.{cut_within, cut_meets, history_cut}
use Rattle.model_fine.proofs.fine_laws.histories_are_cut.Goals as goal

pub returns : goal.returns
returns c = record {
  within = λ n line choice box some. cut_within n some line choice box;
  history = λ n line script choice h some is_h.
      history_cut n some c.history_laws.ensures line script choice h is_h;
  meets = λ n line script k h some. cut_meets n some script.kind script.deadline line.horizon (h.trip k);
}
