use Rattle.judge_split.proofs.HeightLaws.{search_as_deep}
use Rattle.judge_split.proofs.laws.what_a_search_finds_is_as_deep.Goals as goal

pub returns : goal.returns
returns c line script k n tree found = search_as_deep script k n line tree found
