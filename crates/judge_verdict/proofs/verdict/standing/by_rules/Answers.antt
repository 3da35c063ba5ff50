use Rattle.judge_verdict.specs.verdict.PairWavesOf.{pair_history}
use Rattle.judge_verdict.specs.verdict.Standings.{IsStanding}
use Rattle.judge_verdict.specs.verdict.OneEachLaws.{one_more}
use Rattle.judge_verdict.proofs.verdict.standing.by_rules.Goals as goal

pub loop-k-preserved : goal.loop-k-preserved
loop-k-preserved c =
    one_more
    (λ k s. IsStanding c.args.line.now c.args.script.now k (pair_history c.args.waves.now) 0 s)
    c.loop-k.k c.loop-k.standings.items c.push.new.self.items c.by_rule.result
    c.in_ok-push.ensures.items c.by_rule.ensures c.loop-k.invariant
