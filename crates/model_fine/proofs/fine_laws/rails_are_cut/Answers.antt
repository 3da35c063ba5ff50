use Rattle.model_fine.proofs.CutRails.{rails_timed-cut, rails_sealed-cut, rails_delayed-cut}
use Rattle.model_fine.proofs.fine_laws.rails_are_cut.Goals as goal

pub returns : goal.returns
returns c = record {
  timed = λ n u p d t some. rails_timed-cut n some c.history_laws.ensures u p d t;
  sealed = λ n a b t some. rails_sealed-cut n some c.history_laws.ensures a b t;
  delayed = λ n u ends t some. rails_delayed-cut n some c.history_laws.ensures u ends t;
}
