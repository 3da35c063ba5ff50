use Rattle.judge_times.proofs.search.+answer_into.Given as goal

abbrev pub decreases-answer_into : goal.decreases-answer_into
decreases-answer_into l = l.depth
