-- Leaves that are taken to be yes.
use Rattle.std.proofs.Common.{◌≡◌, ℕ, List, [], ◌∷◌, ◌++◌, Some, sym, subst, ⊎_elim}
use Rattle.std.specs.Prelude.{slice_get}
use Rattle.model_line.specs.{declared.line.Line.Line, declared.script.Script.Script}
use Rattle.model_history.specs.ListLaws.{at_push, before_append}
use Rattle.judge_cases.specs.{declared.view.View.View, Views.IsView, Views.AreViews}
use Rattle.judge_settle.specs.settle.Leaves.{AreAllShown, AreMoreViews}

-- a view more is one of more views
pub one_more : (line : Line) (before after : List View) (view : View)
    → after ≡ before ++ view ∷ [] → IsView line view → AreViews line before
    → AreMoreViews line before after
one_more line before after view is here views = record {
  views = record {
    each = λ i v at.
        ⊎_elim (λ early. views.each i v early)
        (λ last. subst (IsView line) (sym last.1) here)
        (at_push before view v i (subst (λ (l : List View). slice_get l i ≡ Some v) is at));
  };
  kept = λ i v at.
      subst (λ (l : List View). slice_get l i ≡ Some v) (sym is) (before_append before (view ∷ []) i v at);
}

pub more_and_more : (line : Line) (before between after : List View)
    → AreMoreViews line before between → AreMoreViews line between after
    → AreMoreViews line before after
more_and_more line before between after one other = record {
  views = other.views;
  kept = λ i v at. other.kept i v (one.kept i v at);
}

-- what is shown over more views is shown over those before
pub shown_before : (line : Line) (script : Script) (k : ℕ) (before after : List View)
    → AreMoreViews line before after → AreAllShown line script k after
    → AreAllShown line script k before
shown_before line script k before after more shown =
    record { each = λ i v at. shown.each i v (more.kept i v at) }
