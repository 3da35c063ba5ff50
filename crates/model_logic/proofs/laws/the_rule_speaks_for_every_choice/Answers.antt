use Rattle.model_logic.proofs.BoxLaws.{box_covers_choice}
use Rattle.model_logic.proofs.RuleLaws.{held_rule_met, broken_rule_failed}
use Rattle.model_logic.proofs.laws.the_rule_speaks_for_every_choice.Goals as goal

pub returns : goal.returns
returns c = record {
  held = λ line script box w k early d is_w lt rule choice h within is_h.
      held_rule_met c.history_laws.ensures line script w h k early
      (box_covers_choice c.history_laws.ensures line script box d choice within h is_h w is_w) lt rule;
  broken = λ line script box w k early d is_w lt rule choice h within is_h.
      broken_rule_failed c.history_laws.ensures line script w h k early
      (box_covers_choice c.history_laws.ensures line script box d choice within h is_h w is_w) lt rule;
}
