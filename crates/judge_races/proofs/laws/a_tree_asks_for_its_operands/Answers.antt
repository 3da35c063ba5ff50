use Rattle.judge_races.proofs.OperandLaws.{mean_complete, may_complete}
use Rattle.judge_races.proofs.laws.a_tree_asks_for_its_operands.Goals as goal

pub returns : goal.returns
returns c = record { values = mean_complete; rails = may_complete }
