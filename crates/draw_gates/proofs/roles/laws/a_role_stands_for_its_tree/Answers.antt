use Rattle.net_gates.specs.Formulas.{formula_of}
use Rattle.model_plain.specs.Roles.{role_tree}
use Rattle.draw_gates.proofs.roles.laws.a_role_stands_for_its_tree.Goals as goal
use Rattle.model_logic.specs.SameTreeLaws.{tree-same}

pub returns : goal.returns
returns c = λ line gates role i has.
    tree-same (formula_of gates i) (role_tree line role) has
