-- The nodes of trees of parts and spans.
use Rattle.std.specs.Prelude.{◌≡◌, ◌∷◌, ◌++◌, [], ℕ, List}
use Rattle.model_line.specs.{declared.line.Line.Line, declared.script.Script.Script}
use Rattle.model_logic.specs.Choice.{Box}
use Rattle.model_settle.specs.Assumed.{Assumption}
use Rattle.model_settle.specs.CaseTrees.{CaseTree, Yes, Undecided, Parted, Wanted, AreSound}
use Rattle.judge_cases.specs.declared.node.CaseNode.{CaseNode}
use Rattle.judge_cases.specs.declared.node.CaseNode.TheVariants as node

-- the nodes of a tree in preorder
abbrev pub preorder : CaseTree → List CaseNode
preorder Yes = node.Yes ∷ []
preorder Undecided = node.Undecided ∷ []
preorder (Parted param mid lower upper) =
    node.Parted param mid ∷ (preorder lower ++ preorder upper)
preorder (Wanted span throughout interrupted) =
    node.Wanted span.terminal span.from span.to ∷ (preorder throughout ++ preorder interrupted)

-- the nodes are those of a sound tree
pub record IsSoundTree (line : Line) (script : Script) (k : ℕ) (box : Box)
    (assumed : List Assumption) (nodes : List CaseNode) : Type 0 where
  pub tree : CaseTree
  pub is : nodes ≡ preorder tree
  pub sound : AreSound line script k box assumed tree
