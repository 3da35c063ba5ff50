-- Trees whose yes leaves are held, and the first yes leaf that is not.
use Rattle.std.specs.Prelude.{◌≡◌, ◌<◌, ℕ, List, Some, slice_get, IsTrue}
use Rattle.model_line.specs.{declared.script.Script.Script, declared.line.Line.Line}
use Rattle.model_logic.specs.{HeldOver.IsHeldOver, Choice.declared_box}
use Rattle.judge_split.specs.Trees.{SplitTree, preorder}
use Rattle.judge_split.specs.{declared.node.Node.Node, Leaves.Leaf, Leaves.leaves, Leaves.IsSoundSplit}

-- Of all leaves, numbered from 0, this is the first that is yes where the rule of terminal k is not
-- held over its box.
pub record IsFirstNotHeld (line : Line) (script : Script) (k : ℕ) (all : List Leaf) (number : ℕ)
    : Type 0 where
  pub leaf : Leaf
  pub at : slice_get all number ≡ Some leaf
  pub yes : IsTrue leaf.yes
  pub not_held : ¬ (IsHeldOver line script k leaf.box)
  pub before : (i : ℕ) (earlier : Leaf) → i < number → slice_get all i ≡ Some earlier
      → IsTrue earlier.yes → IsHeldOver line script k earlier.box

-- these are the nodes of a tree, of which the rule of terminal k is held over the part of each yes
-- leaf of the declared box
pub record IsTreeHeld (line : Line) (script : Script) (k : ℕ) (nodes : List Node) : Type 0 where
  pub tree : SplitTree
  pub are : nodes ≡ preorder tree
  pub sound : IsSoundSplit line script k (declared_box line) tree

-- these are the nodes of a tree, of which this leaf is the first that is yes and not held
pub record IsTreeNotHeld (line : Line) (script : Script) (k : ℕ) (nodes : List Node) (leaf : ℕ)
    : Type 0 where
  pub tree : SplitTree
  pub are : nodes ≡ preorder tree
  pub first : IsFirstNotHeld line script k (leaves (declared_box line) tree) leaf
