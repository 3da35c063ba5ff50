use Rattle.run_step.specs.GatePairLaws.{gate_pairs-kind}
use Rattle.run_step.proofs.laws.gates_have_their_kind.Goals as goal

pub returns : goal.returns
returns c = gate_pairs-kind c.gates_stand_for_their_trees.ensures.kinds
