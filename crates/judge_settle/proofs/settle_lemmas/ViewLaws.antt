-- A view is of its own box.
use Rattle.std.proofs.Common.{refl}
use Rattle.model_line.specs.declared.line.Line.{Line}
use Rattle.judge_cases.specs.Views.{Views, IsView, view_box}
use Rattle.judge_cases.specs.declared.view.View.{View}

pub own_view : (line : Line) (view : View) → IsView line view
    → Views line (view_box line view) view.assumed.items view
own_view line view is = record {
  is = is;
  same = record { numbers = λ i lt. refl; delays = λ c t lt early. refl };
  assumes = refl;
}
