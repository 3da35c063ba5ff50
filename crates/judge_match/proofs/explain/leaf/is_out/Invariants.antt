use Rattle.judge_match.proofs.explain.leaf.is_out.Given as goal

abbrev pub invariant-loop-k : goal.invariant-loop-k
invariant-loop-k l = Unit {0}
