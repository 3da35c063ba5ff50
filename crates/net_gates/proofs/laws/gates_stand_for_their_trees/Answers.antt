use Rattle.net_gates.specs.FormulaLaws.{formula_of-gate}
use Rattle.net_gates.proofs.Names.{formula_names}
use Rattle.net_gates.proofs.laws.gates_stand_for_their_trees.Goals as goal

pub returns : goal.returns
returns c = record {
  kinds = formula_of-gate;
  names = λ line gates i named. formula_names line gates named i;
}
