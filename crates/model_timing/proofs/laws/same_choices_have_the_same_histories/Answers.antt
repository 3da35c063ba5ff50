use Rattle.model_timing.proofs.SameHistories.{same_history}
use Rattle.model_timing.proofs.laws.same_choices_have_the_same_histories.Goals as goal

pub returns : goal.returns
returns c line script a b h from_a from_b same is =
    same_history c.elements_read_the_past.ensures c.trees_name_the_line.ensures line script a b from_a from_b same h is
