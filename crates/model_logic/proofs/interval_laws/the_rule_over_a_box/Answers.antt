use Rattle.model_logic.proofs.HeldLaws.{held_of, held_inside, held_same_box, held_same_line}
use Rattle.model_logic.proofs.HeldLaws.{held_meets}
use Rattle.model_logic.proofs.interval_laws.the_rule_over_a_box.Goals as goal

pub returns : goal.returns
returns c = record {
  one = λ line script k box w early d kn is_w held.
      held_of c.history_laws.ensures line script k early kn box d w is_w held;
  narrower = λ line script k inner outer early d kn within held.
      held_inside c.history_laws.ensures line script k early kn inner outer d within held;
  same = held_same_box c.history_laws.ensures;
  lines = λ line other script k box same held.
      held_same_line c.history_laws.ensures line other same script k box held;
  meets = λ line script k box early d kn held choice h within is_h.
      held_meets c.history_laws.ensures line script k early kn box d held choice h within is_h;
}
