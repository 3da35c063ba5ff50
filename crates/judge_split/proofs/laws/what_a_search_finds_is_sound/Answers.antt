use Rattle.judge_split.proofs.SoundLaws.{search_sound}
use Rattle.judge_split.proofs.laws.what_a_search_finds_is_sound.Goals as goal

pub returns : goal.returns
returns c line script k n tree found = search_sound c.laws_below.ensures script k n line tree found
