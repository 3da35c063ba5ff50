use Rattle.judge_match.specs.explain.Asked.{IsPart}
use Rattle.judge_match.proofs.explain.guess.guessed.Given as goal

abbrev pub invariant-loop-round : goal.invariant-loop-round
invariant-loop-round l = IsPart l.q.compiled.line.now l.part.items
