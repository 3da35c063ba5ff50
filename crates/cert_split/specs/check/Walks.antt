-- A walk through the nodes of a tree, as the code does it.
use Rattle.std.specs.Prelude.{◌≡◌, ◌+◌, ◌++◌, ℕ, List, length}
use Rattle.model_line.specs.{declared.line.Line.Line, declared.script.Script.Script}
use Rattle.model_logic.specs.Choice.{Box, declared_box}
use Rattle.model_logic.specs.HeldOver.{IsHeldOver}
use Rattle.judge_split.specs.Leaves.{leaves, Splits, IsSoundSplit}
use Rattle.judge_split.specs.{declared.node.Node.Node, Trees.SplitTree, Trees.preorder}
use Rattle.judge_split.specs.{Parts.IsPart}
use Rattle.cert_split.specs.declared.check.tree.{NotHeld.NotHeld, Passed.Passed}
use Rattle.cert_split.specs.check.FirstLeaf.{IsFirstNotHeld}

-- the nodes begin with those of a tree that splits the box of which this is a part
pub record BeginWithTree (part : Line) (nodes : List Node) : Type 0 where
  pub line : Line
  pub box : Box
  pub is_part : IsPart line box part
  pub tree : SplitTree
  pub after : List Node
  pub are : nodes ≡ preorder tree ++ after
  pub splits : Splits line box tree

-- from so far on the tree was walked to its end, and its yes leaves are held
pub record IsWalked (line : Line) (script : Script) (k : ℕ) (box : Box) (tree : SplitTree)
    (passed walked : Passed) : Type 0 where
  pub nodes : walked.nodes ≡ passed.nodes + length (preorder tree)
  pub leaves : walked.leaves ≡ passed.leaves + length (leaves box tree)
  pub sound : IsSoundSplit line script k box tree

-- this yes leaf of it is not held, where its first leaf has number `first`
pub record IsNotHeldFrom (line : Line) (script : Script) (k : ℕ) (box : Box) (tree : SplitTree)
    (first : ℕ) (fault : NotHeld) : Type 0 where
  pub place : ℕ
  pub is : fault.leaf ≡ first + place
  pub leaf : IsFirstNotHeld line script k (leaves box tree) place

-- the leaf of this number, which is the declared box of a line, is not held
abbrev pub IsLeafFault : Line → Script → ℕ → ℕ → NotHeld → Type 0
IsLeafFault part script k leaf fault =
    (fault.leaf ≡ leaf) × ¬ (IsHeldOver part script k (declared_box part))
