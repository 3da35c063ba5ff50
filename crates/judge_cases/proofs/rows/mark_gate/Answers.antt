use Rattle.judge_cases.proofs.RowLaws.{rows_more}
use Rattle.judge_cases.proofs.OneGate.{one_gate}
use Rattle.judge_cases.proofs.rows.mark_gate.Goals as goal

pub returns : goal.returns
returns c =
    let net = c.args.compiled.now.net.now in
    let gate = c.args.gate.0 in
    rows_more c.args.compiled.now.line.now net c.args.row c.args.rows.now.items c.requires.rows gate
    c.requires.stands
    (λ i inside e. one_gate net.gates c.gates_stand_for_their_trees.ensures.kinds
    c.args.compiled.now.of_line.laws.gates i gate inside c.requires.gate e)
