-- What a search answers.
use Rattle.std.specs.Prelude.{◌≡◌, ℕ, List, IsTrue}
use Rattle.std.specs.List.{list_all}
use Rattle.model_line.specs.{declared.line.Line.Line, declared.script.Script.Script}
use Rattle.judge_split.specs.{declared.node.Node.Node, declared.node.Outcome.Outcome}
use Rattle.judge_split.specs.declared.node.Outcome.TheVariants as outcome
use Rattle.judge_split.specs.Trees.{SplitTree, preorder, is_decided}
use Rattle.judge_split.specs.Search.{Tree, Fails, IsSearch}

-- the nodes, in preorder, of the tree that the search finds
pub record AreNodes (line : Line) (script : Script) (k n : ℕ) (nodes : List Node) : Type 0 where
  pub tree : SplitTree
  pub are : nodes ≡ preorder tree
  pub found : IsSearch script k n line (Tree tree)

-- the outcome of the search to depth n: the nodes of its tree in preorder, or the timing that fails
abbrev pub IsFound : Line → Script → ℕ → ℕ → Outcome → Type 0
IsFound line script k n (outcome.Tree nodes) = AreNodes line script k n nodes.items
IsFound line script k n (outcome.Fails timing) = IsSearch script k n line (Fails timing)

-- it is a tree with no undecided leaf
abbrev pub IsAllYes : Outcome → Type 0
IsAllYes (outcome.Tree nodes) = IsTrue (list_all is_decided nodes.items)
IsAllYes (outcome.Fails timing) = ⊥
