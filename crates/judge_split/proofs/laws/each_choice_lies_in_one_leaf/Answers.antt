use Rattle.judge_split.proofs.LeafLaws.{one_leaf}
use Rattle.judge_split.proofs.laws.each_choice_lies_in_one_leaf.Goals as goal

pub returns : goal.returns
returns c line box tree choice splits within = one_leaf c.laws_below.ensures line choice tree box splits within
