-- The cells of a map: intervals that begin elsewhere, each with its width, along one axis or two.
use Rattle.std.specs.Prelude.{◌≤◌, ◌<◌, ◌+◌, ◌-◌, ◌*◌, ◌/◌, ◌%◌, ◌==◌, ℕ, Bool, Option, None, Some}
use Rattle.std.specs.Prelude.{if◌then◌else◌}
use Rattle.std.specs.List.{list_any}
use Rattle.model_history.specs.Rails.{Ends}
use Rattle.model_line.specs.{declared.line.Line.Line, Parameters.declared_ends}
use Rattle.model_logic.specs.{Choice.Box, Boxes.box_of}
use Rattle.judge_margins.specs.{declared.map.axis.Axis.Axis, declared.map.axis.Axes.Axes}
use Rattle.judge_margins.specs.map.Placed.{AreOfLine, CanPlaceAll, width_of}

-- parameters of the line, and numbers of ticks in order, step by step
pub record IsAxis (line : Line) (axis : Axis) : Type 0 where
  pub params : AreOfLine line axis.params.items
  pub step : 1 ≤ axis.step
  pub ordered : axis.first ≤ axis.last
  pub limit : axis.last ≤ 4000

-- how many numbers there are from the first to the last, step by step
abbrev pub count_along : Axis → ℕ
count_along axis = (axis.last - axis.first) / axis.step + 1

-- the n-th of them
abbrev pub least_at : Axis → ℕ → ℕ
least_at axis n = axis.first + n * axis.step

-- each parameter's interval can begin at each of them
abbrev pub CanMove : Line → Axis → Type 0
CanMove line axis =
    (n : ℕ) → n < count_along axis → CanPlaceAll line axis.params.items (least_at axis n)

-- the parameter is one of those that move along the axis
abbrev pub moves : Axis → ℕ → Bool
moves axis param = list_any (λ p. p == param) axis.params.items

-- the interval with its width, beginning there
abbrev pub moved : Line → ℕ → ℕ → Ends
moved line param least = record { least = least; greatest = least + width_of line param }

-- what moves along the axis begins at the n-th number; all else is as it was
abbrev pub ends_along : Line → Axis → ℕ → (ℕ → Ends) → ℕ → Ends
ends_along line axis n ends param =
    if moves axis param then moved line param (least_at axis n) else ends param

-- the same along a second axis, if there is one
abbrev pub ends_up : Line → Option Axis → ℕ → (ℕ → Ends) → ℕ → Ends
ends_up line None row ends = ends
ends_up line (Some axis) row ends = ends_along line axis row ends

-- the intervals of a cell; what both axes move, the second does
abbrev pub cell_ends : Line → Axes → ℕ → ℕ → ℕ → Ends
cell_ends line axes column row =
    ends_up line axes.y row (ends_along line axes.x column (declared_ends line))

-- the cell: the box of these intervals, each delay's the same at every tick
abbrev pub cell_box : Line → Axes → ℕ → ℕ → Box
cell_box line axes column row = box_of line (cell_ends line axes column row)

-- ---- one axis, or two

abbrev pub IsSecond : Line → Option Axis → Type 0
IsSecond line None = Unit {0}
IsSecond line (Some axis) = IsAxis line axis

abbrev pub CanMoveSecond : Line → Option Axis → Type 0
CanMoveSecond line None = Unit {0}
CanMoveSecond line (Some axis) = CanMove line axis

pub record AreAxes (line : Line) (axes : Axes) : Type 0 where
  pub x : IsAxis line axes.x
  pub y : IsSecond line axes.y

-- each cell can be placed
pub record CanMoveBoth (line : Line) (axes : Axes) : Type 0 where
  pub x : CanMove line axes.x
  pub y : CanMoveSecond line axes.y

-- how many numbers the second axis has; without one there is one row
abbrev pub rows_of : Option Axis → ℕ
rows_of None = 1
rows_of (Some axis) = count_along axis

abbrev pub row_count : Axes → ℕ
row_count axes = rows_of axes.y

abbrev pub column_count : Axes → ℕ
column_count axes = count_along axes.x

abbrev pub cell_count : Axes → ℕ
cell_count axes = column_count axes * row_count axes

-- cells are told column by column, each from its first row on
abbrev pub place_box : Line → Axes → ℕ → Box
place_box line axes place = cell_box line axes (place / row_count axes) (place % row_count axes)
