-- Trees of splits.
use Rattle.std.specs.Prelude.{◌&&◌, ◌+◌, ◌++◌, ℕ, max, Bool, true, false, List, [], ◌∷◌}
use Rattle.judge_split.specs.declared.node.Node.{Node}
use Rattle.judge_split.specs.declared.node.Node.TheVariants as node

-- over its box each choice meets the obligation; nothing is shown; or the box is split where the
-- number of a parameter goes past `mid`, and a tree stands for each half
pub data SplitTree : Type 0 where
  Yes : SplitTree
  Undecided : SplitTree
  Split : (param mid : ℕ) (first second : SplitTree) → SplitTree

-- the nodes of a tree in preorder
abbrev pub preorder : SplitTree → List Node
preorder Yes = node.Yes ∷ []
preorder Undecided = node.Undecided ∷ []
preorder (Split param mid first second) =
    node.Split param mid ∷ (preorder first ++ preorder second)

-- how many splits stand above one another, at most
abbrev pub height : SplitTree → ℕ
height Yes = 0
height Undecided = 0
height (Split param mid first second) = max (height first) (height second) + 1

-- each leaf is yes
abbrev pub are_yes : SplitTree → Bool
are_yes Yes = true
are_yes Undecided = false
are_yes (Split param mid first second) = are_yes first && are_yes second

-- the node is no undecided leaf
abbrev pub is_decided : Node → Bool
is_decided node.Yes = true
is_decided node.Undecided = false
is_decided (node.Split param mid) = true
