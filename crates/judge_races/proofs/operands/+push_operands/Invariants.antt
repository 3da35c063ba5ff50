use Rattle.judge_races.proofs.operands.+push_operands.Given as goal

abbrev pub decreases-push_operands : goal.decreases-push_operands
decreases-push_operands l = l.id.0
