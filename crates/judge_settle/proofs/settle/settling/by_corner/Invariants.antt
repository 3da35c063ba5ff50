use Rattle.judge_verdict.specs.verdict.OneEach.{OneEach}
use Rattle.judge_settle.specs.settle.Answers.{IsAnswered}
use Rattle.judge_settle.proofs.settle.settling.by_corner.Given as goal

abbrev pub invariant-loop-k : goal.invariant-loop-k
invariant-loop-k l =
    OneEach (IsAnswered l.line l.script) l.k l.settled.items
