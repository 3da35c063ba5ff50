use Rattle.std.proofs.Common.{◌<◌, arith, subst}
use Rattle.net_gates.specs.Gates.{HasArguments}
use Rattle.judge_cases.proofs.wanted.argument_of_not.Goals as goal

pub returns-in-Not-clause-exists : goal.returns-in-Not-clause-exists
returns-in-Not-clause-exists c =
    let below : c.in-Not.argument.0 < c.args.gate.0 =
    subst (HasArguments c.args.gate.0) c.in-Not.is
    (c.len-laws.ensures.laws.gates.earlier c.args.gate.0 c.gate.result.now c.gate.ensures.is) in
    omega (arith, below, c.requires)
