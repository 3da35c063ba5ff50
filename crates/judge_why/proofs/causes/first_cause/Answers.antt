use Rattle.judge_why.proofs.GateLaws.{arguments, names}
use Rattle.judge_why.proofs.causes.first_cause.Goals as goal

pub sent-requires-clause-channel : goal.sent-requires-clause-channel
sent-requires-clause-channel c =
    names c.args.play.now.compiled.line.now c.args.play.now.compiled.net.now c.args.fact.now.gate _ _
    c.args.play.now.compiled.of_line c.gate.ensures.is c.in-Raw.is

pub operand-requires-clause-below : goal.operand-requires-clause-below
operand-requires-clause-below c =
    arguments c.args.play.now.compiled.net.now c.args.fact.now.gate _ _ c.len-laws.ensures.laws
    c.gate.ensures.is c.in-Not.is

pub alike-requires-clause-below : goal.alike-requires-clause-below
alike-requires-clause-below c =
    (arguments c.args.play.now.compiled.net.now c.args.fact.now.gate _ _ c.len-laws.ensures.laws
    c.gate.ensures.is c.in-And.is).0

pub alike-requires-in-Or-clause-below : goal.alike-requires-in-Or-clause-below
alike-requires-in-Or-clause-below c =
    (arguments c.args.play.now.compiled.net.now c.args.fact.now.gate _ _ c.len-laws.ensures.laws
    c.gate.ensures.is c.in-Or.is).0

pub operand-requires-in-Timer-clause-below : goal.operand-requires-in-Timer-clause-below
operand-requires-in-Timer-clause-below c =
    arguments c.args.play.now.compiled.net.now c.args.fact.now.gate _ _ c.len-laws.ensures.laws
    c.gate.ensures.is c.in-Timer.is

pub operand-requires-in-Seal-clause-below : goal.operand-requires-in-Seal-clause-below
operand-requires-in-Seal-clause-below c =
    (arguments c.args.play.now.compiled.net.now c.args.fact.now.gate _ _ c.len-laws.ensures.laws
    c.gate.ensures.is c.in-Seal.is).0
