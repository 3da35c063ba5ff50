use Rattle.judge_slacks.proofs.InwardLaws.{held_further_in}
use Rattle.judge_slacks.proofs.laws.what_is_held_is_held_further_in.Goals as goal

pub returns : goal.returns
returns c = held_further_in c.laws_below.ensures
