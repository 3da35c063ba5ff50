use Rattle.judge_split.proofs.SearchLaws.{yes_speaks}
use Rattle.judge_split.proofs.laws.a_tree_that_is_yes_speaks_for_every_choice.Goals as goal

pub returns : goal.returns
returns c line script k n tree early kn found all choice h inside is_h =
    yes_speaks c.laws_below.ensures script k n line tree early kn found all choice h inside is_h
