use Rattle.model_fine.proofs.CutElements.{timed-cut, sealed-cut, delayed-cut}
use Rattle.model_fine.proofs.fine_laws.elements_are_cut.Goals as goal

pub returns : goal.returns
returns c = record {
  timed = λ n u p d t some. timed-cut n some c.history_laws.ensures u p d t;
  sealed = λ n set keep t some. sealed-cut n some c.history_laws.ensures set keep t;
  delayed = λ n u d t some. delayed-cut n some c.history_laws.ensures u d t;
}
