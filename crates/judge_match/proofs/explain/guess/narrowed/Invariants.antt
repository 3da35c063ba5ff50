use Rattle.judge_match.specs.explain.Asked.{IsPart}
use Rattle.judge_match.proofs.explain.guess.narrowed.Given as goal

abbrev pub invariant-loop-cut : goal.invariant-loop-cut
invariant-loop-cut l = IsPart l.line l.part.items
