use Rattle.judge_verdict.specs.verdict.PairWavesOf.{pair_history}
use Rattle.judge_verdict.specs.{verdict.OneEach.OneEach, verdict.Standings.IsStanding}
use Rattle.judge_verdict.proofs.verdict.standing.by_rules.Given as goal

abbrev pub invariant-loop-k : goal.invariant-loop-k
invariant-loop-k l =
    OneEach (λ k s. IsStanding l.line l.script k (pair_history l.waves) 0 s) l.k l.standings.items
