-- Views: boxes, each as an interval for each parameter, with what is assumed.
use Rattle.std.specs.Prelude.{◌≡◌, ℕ, List, Some, length, slice_get}
use Rattle.model_line.specs.{declared.line.Line.Line, Parameters.param_count}
use Rattle.model_logic.specs.Boxes.{box_of, interval_of, IsSameBox}
use Rattle.model_logic.specs.Choice.{Box, LeastFromOne}
use Rattle.model_settle.specs.Assumed.{Assumption, HaveSpans}
use Rattle.judge_cases.specs.declared.view.View.{View}

-- the box of a view: each delay has its interval at every tick
abbrev pub view_box : Line → View → Box
view_box line view = box_of line (interval_of view.ends.items)

-- the view is one of the line: an interval for each parameter, of a delay from 1 on, and assumptions
-- over spans of weak terminals
pub record IsView (line : Line) (view : View) : Type 0 where
  pub count : length view.ends.items ≡ param_count line
  pub delays : LeastFromOne line (view_box line view)
  pub spans : HaveSpans line view.assumed.items

-- so is each of these
pub record AreViews (line : Line) (views : List View) : Type 0 where
  pub each : (i : ℕ) (view : View) → slice_get views i ≡ Some view → IsView line view

-- the view is of this box, and what it assumes is this
pub record Views (line : Line) (box : Box) (assumed : List Assumption) (view : View)
    : Type 0 where
  pub is : IsView line view
  pub same : IsSameBox line (view_box line view) box
  pub assumes : view.assumed.items ≡ assumed
