use Rattle.model_settle.proofs.WorstTimings.{worst_inside, worst_decides}
use Rattle.model_settle.proofs.polarity_laws.the_worst_choice_decides.Goals as goal

pub returns : goal.returns
returns c = record {
  inside = λ line sides w.
      worst_inside c.history_laws.ensures c.line_laws.ensures
      c.declared_intervals_are_in_order.ensures line sides w;
  meets = λ line script w h k early by_scheme is_w is_h kn.
      worst_decides c.history_laws.ensures c.line_laws.ensures
      c.declared_intervals_are_in_order.ensures line script early by_scheme w h is_w is_h k kn;
}
