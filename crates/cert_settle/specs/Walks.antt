-- A walk through the nodes of a tree, as the code does it, and what it gathers.
use Rattle.std.specs.Prelude.{◌≡◌, ◌<◌, ◌+◌, ◌++◌, ℕ, Bool, true, false, List, Option, Some, None}
use Rattle.std.specs.Prelude.{length, map, slice_get, IsTrue}
use Rattle.model_line.specs.declared.line.Line.{Line}
use Rattle.model_settle.specs.{CaseTrees.CaseTree, Assumed.HasSpan, Parts.CanPart}
use Rattle.judge_cases.specs.AssumedAt.{span_at}
use Rattle.judge_cases.specs.Trees.{Branches}
use Rattle.judge_cases.specs.{declared.node.CaseNode.CaseNode, Nodes.preorder}
use Rattle.judge_cases.specs.declared.node.CaseNode.TheVariants as node
use Rattle.judge_cases.specs.{declared.view.View.View, Views.Views, Views.view_box}
use Rattle.cert_settle.specs.declared.tree.LeafViews.{LeafViews}
use Rattle.cert_settle.specs.CaseParts.{CasePart, Leaf, parts_below, leaves}

-- the view is of this part
abbrev pub IsViewOf : Line → CasePart → View → Type 0
IsViewOf line part view = Views line part.box part.assumed view

-- the nodes begin with those of a tree that can be made in the box of a part that this is a view of
pub record BeginWithTree (line : Line) (view : View) (nodes : List CaseNode) : Type 0 where
  pub part : CasePart
  pub is_view : IsViewOf line part view
  pub tree : CaseTree
  pub after : List CaseNode
  pub are : nodes ≡ preorder tree ++ after
  pub branches : Branches line part.box tree

-- a node can be made in the box of a view
abbrev pub CanStand : Line → View → CaseNode → Type 0
CanStand line view node.Yes = Unit {0}
CanStand line view node.Undecided = Unit {0}
CanStand line view (node.Parted param mid) = CanPart line (view_box line view) param mid
CanStand line view (node.Wanted terminal from to) = HasSpan line (span_at terminal from to)

-- the views are of the parts of the two trees below a node
pub record AreViewsBelow (line : Line) (part : CasePart) (root : CaseNode) (one two : View)
    : Type 0 where
  pub first : CasePart
  pub second : CasePart
  pub are : parts_below part root ≡ Some (first, second)
  pub at_first : IsViewOf line first one
  pub at_second : IsViewOf line second two

-- the views are of these leaves, one for each, and it is told which are yes
pub record AreOfLeaves (line : Line) (all : List Leaf) (told : LeafViews) : Type 0 where
  pub many : length told.views.items ≡ length all
  pub each : (i : ℕ) (leaf : Leaf) (view : View) → slice_get all i ≡ Some leaf
      → slice_get told.views.items i ≡ Some view → IsViewOf line leaf.part view
  pub yes : told.yes.items ≡ map (λ l. l.yes) all

-- the tree ends there, and its leaves were added to those before
pub record AreAdded (line : Line) (part : CasePart) (tree : CaseTree) (at end : ℕ)
    (old new : LeafViews) : Type 0 where
  pub nodes : end ≡ at + length (preorder tree)
  pub more : (all : List Leaf) → AreOfLeaves line all old
      → AreOfLeaves line (all ++ leaves part tree) new

-- at each of the first n places that is marked it is shown
abbrev pub NoneIsWrong : List Bool → List Bool → ℕ → Type 0
NoneIsWrong marked shown n = (i : ℕ) (b : Bool) → i < n → slice_get marked i ≡ Some true
    → slice_get shown i ≡ Some b → IsTrue b

-- this place is marked and not shown, and no place before is
pub record IsWrongAt (marked shown : List Bool) (n : ℕ) : Type 0 where
  pub here : slice_get marked n ≡ Some true
  pub not_shown : slice_get shown n ≡ Some false
  pub before : NoneIsWrong marked shown n

-- it is the first such place, or there is none
abbrev pub IsFirstWrong : List Bool → List Bool → Option ℕ → Type 0
IsFirstWrong marked shown None = NoneIsWrong marked shown (length marked)
IsFirstWrong marked shown (Some n) = IsWrongAt marked shown n
