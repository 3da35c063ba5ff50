-- The trees of a gate's arguments, compared with the parts of a tree.
use Rattle.std.specs.Prelude.{◌&&◌, Bool, false, List, Option, Some, None}
use Rattle.model_logic.specs.{Tree.Tree, SameTree.same_tree}
use Rattle.net_gates.specs.declared.{gate.Gate.Gate, gate.GateId.GateId}
use Rattle.net_gates.specs.Formulas.{formula_of}

-- there is such a gate, and it stands for the tree
abbrev pub is_one : List Gate → Tree → Option GateId → Bool
is_one gates x None = false
is_one gates x (Some a) = same_tree (formula_of gates a.0) x

-- there are two such gates, and they stand for the trees
abbrev pub are_two : List Gate → Tree → Tree → Option (GateId × GateId) → Bool
are_two gates x y None = false
are_two gates x y (Some (a, b)) =
    same_tree (formula_of gates a.0) x && same_tree (formula_of gates b.0) y
