use Rattle.model_fine.proofs.CutTrees.{mean-cut, pair_mean-cut}
use Rattle.model_fine.proofs.fine_laws.trees_are_cut.Goals as goal

pub returns : goal.returns
returns c = record {
  value = λ n w keys x t some. mean-cut c.history_laws.ensures n some w keys x t;
  pair = λ n w keys x t some. pair_mean-cut c.history_laws.ensures n some w keys x t;
}
