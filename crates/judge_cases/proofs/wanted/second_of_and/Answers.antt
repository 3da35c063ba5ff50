use Rattle.std.proofs.Common.{arith, subst}
use Rattle.net_gates.specs.Gates.{HasArguments}
use Rattle.judge_cases.proofs.wanted.second_of_and.Goals as goal

pub returns-in-And-clause-exists : goal.returns-in-And-clause-exists
returns-in-And-clause-exists c =
    let both = subst (HasArguments c.args.gate.0) c.in-And.is
    (c.len-laws.ensures.laws.gates.earlier c.args.gate.0 c.gate.result.now c.gate.ensures.is) in
    omega (arith, both.1, c.requires)
