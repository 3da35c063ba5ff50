-- The trees that gates stand for.
use Rattle.std.specs.Prelude.{◌≡◌, ◌<◌, ◌++◌, ℕ, false, List, [], ◌∷◌, length, get_or, map}
use Rattle.model_logic.specs.Tree.{Tree}
use Rattle.model_logic.specs.Tree as tree
use Rattle.net_gates.specs.declared.gate.{Gate.Gate, GateId.GateId}
use Rattle.net_gates.specs.declared.gate.Gate.TheVariants.{Const, Seen, Loss, Raw, Not, And, Or}
use Rattle.net_gates.specs.declared.gate.Gate.TheVariants.{Timer, Seal}

-- the tree with this number among those so far
abbrev pub tree_at : List Tree → ℕ → Tree
tree_at trees i = get_or trees i (tree.Const false)

-- a gate's own kind over the trees of its arguments
abbrev pub tree_with : (ℕ → Tree) → Gate → Tree
tree_with trees (Const v) = tree.Const v
tree_with trees (Seen p) = tree.Seen p
tree_with trees (Loss c) = tree.Loss c
tree_with trees (Raw c) = tree.Raw c
tree_with trees (Not a) = tree.Not (trees a.0)
tree_with trees (And a b) = tree.And (trees a.0) (trees b.0)
tree_with trees (Or a b) = tree.Or (trees a.0) (trees b.0)
tree_with trees (Timer a p d) = tree.Timer (trees a.0) p d
tree_with trees (Seal a b) = tree.Seal (trees a.0) (trees b.0)

-- the trees of the gates in order, after those so far
abbrev pub formulas_after : List Tree → List Gate → List Tree
formulas_after trees [] = trees
formulas_after trees (g ∷ gs) = formulas_after (trees ++ tree_with (tree_at trees) g ∷ []) gs

-- the tree that the gate with this number stands for
unfoldable pub formula_of : List Gate → ℕ → Tree
formula_of gates id = tree_at (formulas_after [] gates) id

-- the trees that these gates stand for
abbrev pub trees_of : List Gate → List GateId → List Tree
trees_of gates ids = map (λ id. formula_of gates id.0) ids

-- the tree that a further gate over these would stand for
abbrev pub kind_over : List Gate → Gate → Tree
kind_over gates g = tree_with (formula_of gates) g

-- the gate exists and stands for this tree
pub record Stands (gates : List Gate) (id : ℕ) (tree : Tree) : Type 0 where
  pub within : id < length gates
  pub is : formula_of gates id ≡ tree
