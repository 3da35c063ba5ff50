-- Trees of parts and spans: how high, how many, where they can be made, and which are settled.
use Rattle.std.specs.Prelude.{◌≡◌, ◌≤◌, ◌+◌, ℕ, List, max}
use Rattle.model_line.specs.declared.line.Line.{Line}
use Rattle.model_logic.specs.Choice.{Box, declared_box}
use Rattle.model_settle.specs.Assumed.{HasSpan}
use Rattle.model_settle.specs.CaseTrees.{CaseTree, Yes, Undecided, Parted, Wanted}
use Rattle.model_settle.specs.Parts.{CanPart, upper_from}
use Rattle.model_logic.specs.Boxes.{lower_half}
use Rattle.judge_cases.specs.declared.node.CaseNode.{CaseNode}
use Rattle.judge_cases.specs.Nodes.{preorder}

-- how many parts and pairs of cases stand above one another, at most
abbrev pub height : CaseTree → ℕ
height Yes = 0
height Undecided = 0
height (Parted param mid lower upper) = max (height lower) (height upper) + 1
height (Wanted span throughout interrupted) =
    max (height throughout) (height interrupted) + 1

-- how many parts and pairs of cases a tree has; its leaves are one more
abbrev pub branch_count : CaseTree → ℕ
branch_count Yes = 0
branch_count Undecided = 0
branch_count (Parted param mid lower upper) = branch_count lower + branch_count upper + 1
branch_count (Wanted span throughout interrupted) =
    branch_count throughout + branch_count interrupted + 1

-- each part of the tree can be made, and each pair of cases told apart
abbrev pub Branches : Line → Box → CaseTree → Type 0
Branches line box Yes = Unit {0}
Branches line box Undecided = Unit {0}
Branches line box (Parted param mid lower upper) =
    CanPart line box param mid
    × (Branches line (lower_half box param mid) lower
    × Branches line (upper_from box param mid) upper)
Branches line box (Wanted span throughout interrupted) =
    HasSpan line span × (Branches line box throughout × Branches line box interrupted)

-- at most so many of these stand above one another, and so many are in a tree, which so has
-- at most 4,095 nodes
abbrev pub deepest : ℕ
deepest = 1024

abbrev pub most_branches : ℕ
most_branches = 2047

-- these are the nodes of a tree, of which each part can be made in the declared box, and each pair of
-- cases told apart
pub record AreTree (line : Line) (nodes : List CaseNode) : Type 0 where
  pub tree : CaseTree
  pub are : nodes ≡ preorder tree
  pub branches : Branches line (declared_box line) tree
  pub low : height tree ≤ deepest
  pub few : branch_count tree ≤ most_branches
