use Rattle.judge_split.proofs.searching.+search_part.Given as goal

abbrev pub decreases-search_part : goal.decreases-search_part
decreases-search_part l = l.depth
