use Rattle.judge_split.proofs.SoundLaws.{sound_splits}
use Rattle.judge_split.proofs.laws.a_sound_tree_splits_its_box.Goals as goal

pub returns : goal.returns
returns c line script k box tree sound = sound_splits line script k tree box sound
