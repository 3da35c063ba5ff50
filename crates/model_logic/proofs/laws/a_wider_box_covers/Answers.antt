use Rattle.model_logic.proofs.BoxLaws.{box_covers, box_covers_choice, box_covers_tree}
use Rattle.model_logic.proofs.laws.a_wider_box_covers.Goals as goal

pub returns : goal.returns
returns c = record {
  boxes = λ line script inner outer narrow wide d within is_narrow is_wide.
      box_covers c.history_laws.ensures line script outer d inner within wide narrow is_wide is_narrow;
  choices = λ line script box choice w h d within is_w is_h.
      box_covers_choice c.history_laws.ensures line script box d choice within h is_h w is_w;
  trees = λ line script box choice w h d within is_w is_h.
      box_covers_tree c.history_laws.ensures line script box d choice within h is_h w is_w;
}
