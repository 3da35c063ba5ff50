use Rattle.judge_match.proofs.explain.search.+search_part.Given as goal

abbrev pub decreases-search_part : goal.decreases-search_part
decreases-search_part l = l.depth
