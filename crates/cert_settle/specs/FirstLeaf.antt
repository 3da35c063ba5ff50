-- Trees whose yes leaves are shown, and the first yes leaf that is not.
use Rattle.std.specs.Prelude.{◌≡◌, ◌<◌, ℕ, List, Some, slice_get, IsTrue}
use Rattle.model_line.specs.{declared.script.Script.Script, declared.line.Line.Line}
use Rattle.model_settle.specs.CaseTrees.{CaseTree}
use Rattle.judge_cases.specs.{declared.node.CaseNode.CaseNode, Nodes.preorder}
use Rattle.cert_settle.specs.CaseParts.{Leaf, leaves, whole_part, IsShownOver, AreSoundOver}

-- Of all leaves, numbered from 0, this is the first that is yes where the obligation of terminal k
-- is not shown over its part.
pub record IsFirstNotShown (line : Line) (script : Script) (k : ℕ) (all : List Leaf) (number : ℕ)
    : Type 0 where
  pub leaf : Leaf
  pub at : slice_get all number ≡ Some leaf
  pub yes : IsTrue leaf.yes
  pub not_shown : ¬ (IsShownOver line script k leaf.part)
  pub before : (i : ℕ) (earlier : Leaf) → i < number → slice_get all i ≡ Some earlier
      → IsTrue earlier.yes → IsShownOver line script k earlier.part

-- these are the nodes of a tree that is sound over the declared box: each part can be made, each pair
-- of cases told apart, and the obligation of terminal k is shown over the part of each yes leaf
pub record IsTreeShown (line : Line) (script : Script) (k : ℕ) (nodes : List CaseNode)
    : Type 0 where
  pub tree : CaseTree
  pub are : nodes ≡ preorder tree
  pub sound : AreSoundOver line script k (whole_part line) tree

-- these are the nodes of a tree, of which this leaf is the first that is yes and not shown
pub record IsTreeNotShown (line : Line) (script : Script) (k : ℕ) (nodes : List CaseNode)
    (leaf : ℕ) : Type 0 where
  pub tree : CaseTree
  pub are : nodes ≡ preorder tree
  pub first : IsFirstNotShown line script k (leaves (whole_part line) tree) leaf
