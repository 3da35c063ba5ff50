use Rattle.judge_races.proofs.operands.+push_alternatives.Given as goal

abbrev pub decreases-push_alternatives : goal.decreases-push_alternatives
decreases-push_alternatives l = l.id.0
