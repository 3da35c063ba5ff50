use Rattle.judge_match.specs.explain.Asked.{IsPart}
use Rattle.judge_match.proofs.explain.ahead.halved.Given as goal

abbrev pub invariant-loop-halving : goal.invariant-loop-halving
invariant-loop-halving l = IsPart l.q.compiled.line.now l.part.items
