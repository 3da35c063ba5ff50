use Rattle.judge_races.proofs.operands.gate_at.Goals as goal

pub returns-clause-arguments : goal.returns-clause-arguments
returns-clause-arguments c =
    c.len-laws.ensures.laws.gates.earlier c.args.id.0 c.gate.result.now c.gate.ensures.is
