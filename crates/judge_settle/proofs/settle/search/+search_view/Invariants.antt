use Rattle.judge_settle.proofs.settle.search.+search_view.Given as goal

abbrev pub decreases-search_view : goal.decreases-search_view
decreases-search_view l = l.depth
