-- Which gate of a net has a role, and which role a gate has.
use Rattle.std.specs.Prelude.{ℕ, Bool, List, [], ◌∷◌, Option, Some, None, length}
use Rattle.std.specs.Prelude.{if◌then◌else◌}
use Rattle.model_logic.specs.{SameTree.same_tree, Tree.Tree}
use Rattle.model_line.specs.declared.line.Line.{Line}
use Rattle.model_plain.specs.{declared.role.Role.Role, declared.role.NamedPart.NamedPart}
use Rattle.model_plain.specs.{Formulas.own_tree, Roles.role_tree}
use Rattle.net_gates.specs.{declared.gate.Gate.Gate, Formulas.formula_of}
use Rattle.run_waves.specs.waves.FirstTick.{first_on}

-- the gate that stands for this tree, if the net has one
abbrev pub gate_of_tree : List Gate → Tree → Option ℕ
gate_of_tree gates tree = first_on (λ i. same_tree (formula_of gates i) tree) (length gates)

-- the gate of this number stands for the tree of the role
abbrev pub has_role : Line → List Gate → Role → ℕ → Bool
has_role line gates role i = same_tree (formula_of gates i) (role_tree line role)

-- the gate of a role, if the net has one
abbrev pub gate_of : Line → List Gate → Role → Option ℕ
gate_of line gates role = gate_of_tree gates (role_tree line role)

-- the first of these roles that gate i has
abbrev pub role_among : Line → List Gate → ℕ → List Role → Option Role
role_among line gates i [] = None
role_among line gates i (role ∷ rest) =
    if has_role line gates role i then Some role else role_among line gates i rest

-- the role of the first of these parts that gate i is, by their formulas
abbrev pub role_by : List Gate → ℕ → List NamedPart → Option Role
role_by gates i [] = None
role_by gates i (part ∷ rest) =
    if same_tree (formula_of gates i) (own_tree part.formula) then Some part.role
    else role_by gates i rest
