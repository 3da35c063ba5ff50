use Rattle.model_logic.specs.Logic.{set_tree}
use Rattle.judge_races.specs.Operands.{alternatives}
use Rattle.call_races.proofs.Conjunctions.{all_there, operands_same}
use Rattle.call_races.proofs.terminal.operands_at.Goals as goal

pub returns-clause-there : goal.returns-clause-there
returns-clause-there c =
    all_there c.args.compiled.now.net.now.gates
    (alternatives (set_tree c.args.compiled.now.line.now c.args.k)) c.in_ok-all.all.items
    c.in_ok-all.ensures

pub returns-clause-same : goal.returns-clause-same
returns-clause-same c =
    operands_same c.args.compiled.now.net.now.gates
    (alternatives (set_tree c.args.compiled.now.line.now c.args.k)) c.in_ok-all.all.items
    c.in_ok-all.ensures
