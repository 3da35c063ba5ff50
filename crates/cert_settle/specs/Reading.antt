-- Settled trees as they are read.
use Rattle.std.specs.Prelude.{◌≡◌, ◌≢◌, ◌≤◌, ◌+◌, ◌++◌, ◌-◌, ℕ, List, ◌∷◌, map, Vec}
use Rattle.std.specs.Prelude.{Option, None, Some, slice_get, length}
use Rattle.std.specs.Prelude.{IsTrue}
use Rattle.std.specs.List.{All}
use Rattle.std.specs.declared.alloc.Global.{Global}
use Rattle.model_line.specs.declared.line.Line.{Line}
use Rattle.model_logic.specs.Choice.{Box}
use Rattle.model_timing.specs.{declared.step.Step.Step, Inside.IsStepInside, Timing.ascend}
use Rattle.model_settle.specs.CaseTrees.{CaseTree}
use Rattle.base_text.specs.lines.Lines.{Goes, BeginsWith}
use Rattle.judge_cases.specs.declared.node.CaseNode.{CaseNode}
use Rattle.cert_settle.specs.declared.claim.TreeClaim.{TreeClaim}
use Rattle.cert_settle.specs.declared.claim.TreeClaim.TheVariants as claim
use Rattle.judge_cases.specs.Trees.{height, branch_count, Branches}
use Rattle.judge_cases.specs.Nodes.{preorder}
use Rattle.cert_settle.specs.Grammar.{SettleResult, tree, fails, Place, Said, says_node}
use Rattle.cert_settle.specs.Grammar.{says_step, Stands, opens, Root, expected, after_node}
use Rattle.cert_settle.specs.Grammar.{result_over, after_step}
use Rattle.cert_settle.specs.Grammar.{MayStand}
use Rattle.judge_cases.specs.Trees.{most_branches}
use Rattle.cert_settle.specs.Grammar.{whole_over, node_text}
use Rattle.model_logic.specs.Boxes.{IsSameBox}
use Rattle.judge_cases.specs.{declared.view.View.View, Views.IsView, Views.view_box}

-- the view is of this box, whatever it assumes
pub record IsOverBox (line : Line) (box : Box) (view : View) : Type 0 where
  pub is : IsView line view
  pub same : IsSameBox line (view_box line view) box

-- a result as the reader answers it, and those of a script
abbrev pub result_in : TreeClaim → SettleResult
result_in (claim.Tree nodes) = tree nodes.items
result_in (claim.Fails steps numbers) = fails steps.items numbers.items

abbrev pub results_in : Vec TreeClaim Global → List SettleResult
results_in claims = map result_in claims.items

-- lines were read
abbrev pub GoesOn : Line → List Place → List Said → List ℕ → ℕ → List Place → List ℕ → ℕ → Type 0
GoesOn line places said text a left rest b =
    Goes (Stands line) opens places said text a left rest b

-- the nodes of a tree over this root were added, and so much room is left
pub record IsTreeOver (line : Line) (root : Root) (room left : ℕ) (old new : List CaseNode)
    : Type 0 where
  pub tree : CaseTree
  pub nodes : new ≡ old ++ preorder tree
  pub branches : Branches line root.box tree
  pub low : height tree ≤ root.depth
  pub spent : room ≡ left + branch_count tree

-- lines were read of a tree over this root
pub record IsOver (line : Line) (root : Root) (room left : ℕ) (old new : List CaseNode)
    (others : List Root) (text : List ℕ) (first : ℕ) (later : List Place) (rest : List ℕ) (next : ℕ)
    : Type 0 where
  pub is : IsTreeOver line root room left old new
  pub reads : GoesOn line (expected room (root ∷ others) ++ later)
      (map says_node (preorder is.tree)) text first (expected left others ++ later) rest next

-- lines were read of two trees, one after the other
pub record AreTwo (line : Line) (lower upper : Root) (room left : ℕ) (old new : List CaseNode)
    (others : List Root) (text : List ℕ) (first : ℕ) (later : List Place) (rest : List ℕ) (next : ℕ)
    : Type 0 where
  pub middle : ℕ
  pub between : List CaseNode
  pub one : IsTreeOver line lower room middle old between
  pub two : IsTreeOver line upper middle left between new
  pub reads : GoesOn line (expected room (lower ∷ (upper ∷ others)) ++ later)
      (map says_node (preorder one.tree ++ preorder two.tree)) text first
      (expected left others ++ later) rest next

-- lines were read that are below a node: with them it is a tree
pub record IsBelow (line : Line) (root : Root) (at : CaseNode) (room left : ℕ)
    (old new : List CaseNode) (others : List Root) (text : List ℕ) (first : ℕ) (later : List Place)
    (rest : List ℕ) (next : ℕ) : Type 0 where
  pub is : IsTreeOver line root room left old new
  pub more : List CaseNode
  pub begins : preorder is.tree ≡ at ∷ more
  pub reads : GoesOn line (after_node room root others at ++ later) (map says_node more) text first
      (expected left others ++ later) rest next

-- where a line is expected after steps of a timing
abbrev pub timing_place : Box → Option (Step ℕ) → Place
timing_place box None = result_over box
timing_place box (Some step) = after_step step

-- the last of several steps, if there is one
abbrev pub last_of : List (Step ℕ) → Option (Step ℕ)
last_of steps = slice_get steps (length steps - 1)

-- steps that may stand in a timing
pub record AreSteps (line : Line) (steps : List (Step ℕ)) : Type 0 where
  pub inside : All (IsStepInside line) steps
  pub ascending : IsTrue (ascend steps)

-- after lines of a text that say these steps, a line comes next, which was taken
pub record AreRead (line : Line) (box : Box) (later : List Place) (text : List ℕ) (first : ℕ)
    (steps : List (Step ℕ)) (bytes rest : List ℕ) (number : ℕ) : Type 0 where
  pub at : List ℕ
  pub reads : GoesOn line (result_over box ∷ later) (map says_step steps) text first
      (timing_place box (last_of steps) ∷ later) at number
  pub next : BeginsWith at bytes rest

-- no node has this line
abbrev pub IsNoNode : Line → Box → List ℕ → Type 0
IsNoNode line box bytes = (root : CaseNode)
    → MayStand line most_branches (whole_over box) root → bytes ≢ node_text line root
