-- The leaves of a tree that are taken to be yes until they are shown.
use Rattle.std.specs.Prelude.{◌≡◌, ℕ, List, Some, slice_get}
use Rattle.model_line.specs.{declared.line.Line.Line, declared.script.Script.Script}
use Rattle.judge_cases.specs.{declared.view.View.View, Views.AreViews, Analyses.IsShownOf}
use Rattle.judge_settle.specs.settle.Trees.{IsGrownOver, IsFailing, Size}
use Rattle.judge_settle.specs.declared.settle.search.Found.{Found}
use Rattle.judge_settle.specs.declared.settle.search.Found.TheVariants as found

-- the obligation is shown over each of these views
pub record AreAllShown (line : Line) (script : Script) (k : ℕ) (views : List View) : Type 0 where
  pub each : (i : ℕ) (view : View) → slice_get views i ≡ Some view
      → IsShownOf line script k view

-- views of the line, each of those before at its place
pub record AreMoreViews (line : Line) (before after : List View) : Type 0 where
  pub views : AreViews line after
  pub kept : (i : ℕ) (view : View) → slice_get before i ≡ Some view
      → slice_get after i ≡ Some view

-- what a search finds over a view: a tree, which is sound once the obligation is shown over its
-- leaves, or a timing that fails
abbrev pub IsFoundWith : Line → Script → ℕ → Size → View → List View → Found → Type 0
IsFoundWith line script k size view leaves (found.Tree grown) =
    AreAllShown line script k leaves → IsGrownOver line script k size view grown
IsFoundWith line script k size view leaves (found.Fails timing) = IsFailing line script k timing
