use Rattle.judge_split.proofs.LeafLaws.{held_leaves}
use Rattle.judge_split.proofs.laws.leaves_that_are_held_speak_for_every_choice.Goals as goal

pub returns : goal.returns
returns c line script k box tree early kn d splits all choice h within is_h =
    held_leaves c.laws_below.ensures line script k box tree early kn d splits all choice h within is_h
