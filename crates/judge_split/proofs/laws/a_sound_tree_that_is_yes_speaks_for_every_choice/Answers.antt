use Rattle.judge_split.proofs.SoundLaws.{sound_yes_meets}
use Rattle.judge_split.proofs.laws.a_sound_tree_that_is_yes_speaks_for_every_choice.Goals as goal

pub returns : goal.returns
returns c line script k box tree early kn d sound all choice h within is_h =
    sound_yes_meets c.laws_below.ensures line script k box tree early kn d sound all choice h within is_h
