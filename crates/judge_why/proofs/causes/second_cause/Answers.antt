use Rattle.judge_why.proofs.GateLaws.{arguments}
use Rattle.judge_why.proofs.causes.second_cause.Goals as goal

pub alike-requires-clause-below : goal.alike-requires-clause-below
alike-requires-clause-below c =
    (arguments c.args.play.now.compiled.net.now c.args.fact.now.gate _ _ c.len-laws.ensures.laws
    c.gate.ensures.is c.in-And.is).1

pub alike-requires-in-Or-clause-below : goal.alike-requires-in-Or-clause-below
alike-requires-in-Or-clause-below c =
    (arguments c.args.play.now.compiled.net.now c.args.fact.now.gate _ _ c.len-laws.ensures.laws
    c.gate.ensures.is c.in-Or.is).1
