-- What a search finds over a view.
use Rattle.std.specs.Prelude.{◌≡◌, ◌≤◌, ℕ, List, IsTrue}
use Rattle.model_line.specs.{declared.line.Line.Line, declared.script.Script.Script}
use Rattle.model_logic.specs.Choice.{Box}
use Rattle.model_timing.specs.{Timing.TimingValues, Timing.ascend, Inside.IsTimingInside}
use Rattle.model_settle.specs.Assumed.{Assumption}
use Rattle.model_settle.specs.CaseTrees.{CaseTree, are_yes, AreSound}
use Rattle.judge_settle.specs.corner.Decided.{Fails as FailsAt}
use Rattle.judge_cases.specs.Nodes.{preorder}
use Rattle.judge_cases.specs.Views.{Views}
use Rattle.judge_cases.specs.declared.view.View.{View}
use Rattle.judge_cases.specs.Trees.{height, branch_count, deepest, most_branches}
use Rattle.judge_settle.specs.declared.settle.grown.Grown.{Grown}
use Rattle.judge_settle.specs.declared.settle.search.Found.{Found}
use Rattle.judge_settle.specs.declared.settle.search.Found.TheVariants as found

-- the timing is inside the declared intervals, its steps ascend, and its history fails the
-- obligation
pub record IsFailing (line : Line) (script : Script) (k : ℕ) (timing : TimingValues) : Type 0 where
  pub inside : IsTimingInside line timing
  pub ascending : IsTrue (ascend timing.steps)
  pub fails : FailsAt line script k timing

-- how many parts and pairs of cases may stand above one another, and how many may be in a tree
pub record Size : Type 0 where
  pub depth : ℕ
  pub cuts : ℕ

-- as many as a text of settled trees lets a tree have
abbrev pub size_of_text : Size
size_of_text = record { depth = deepest; cuts = most_branches }

-- a tree has at most as many
pub record IsNoLarger (size : Size) (tree : CaseTree) : Type 0 where
  pub low : height tree ≤ size.depth
  pub few : branch_count tree ≤ size.cuts

-- the nodes are those of a tree that is sound over the box under what is assumed and no greater
-- than this size, and it is told whether each leaf is yes
pub record IsGrown (line : Line) (script : Script) (k : ℕ) (size : Size) (box : Box)
    (assumed : List Assumption) (grown : Grown) : Type 0 where
  pub tree : CaseTree
  pub nodes : grown.nodes.items ≡ preorder tree
  pub yes : grown.yes ≡ are_yes tree
  pub sound : AreSound line script k box assumed tree
  pub small : IsNoLarger size tree

-- so it is for each box and what is assumed that the view is of
abbrev pub IsGrownOver : Line → Script → ℕ → Size → View → Grown → Type 0
IsGrownOver line script k size view grown =
    (box : Box) (assumed : List Assumption) → Views line box assumed view
    → IsGrown line script k size box assumed grown

-- what a search finds over a view: such a tree, or a timing that fails
abbrev pub IsFound : Line → Script → ℕ → Size → View → Found → Type 0
IsFound line script k size view (found.Tree grown) = IsGrownOver line script k size view grown
IsFound line script k size view (found.Fails timing) = IsFailing line script k timing
