-- What is lost first beyond the border of what is held, from the declared point on along each axis.
use Rattle.std.specs.Prelude.{◌+◌, ◌-◌, ◌*◌, ◌/◌, ◌%◌, ◌++◌, ◌&&◌, ◌==◌, ℕ, zero, suc, Bool, not}
use Rattle.std.specs.Prelude.{List, [], ◌∷◌, Option, None, Some, codes, decimal, get_or, length, map}
use Rattle.std.specs.Prelude.{nat_le, if◌then◌else◌}
use Rattle.std.specs.{List.list_all, Option.option_or, Bool.then_some}
use Rattle.model_line.specs.{declared.line.Line.Line, declared.script.Script.Script}
use Rattle.model_line.specs.Parameters.{declared_ends}
use Rattle.judge_map.specs.declared.known.Known.{Known}
use Rattle.judge_margins.specs.{declared.map.axis.Axis.Axis, declared.map.axis.Axes.Axes}
use Rattle.judge_map.specs.declared.cell.SettledCell.{SettledCell}
use Rattle.judge_margins.specs.map.Axes.{column_count, count_along, least_at, rows_of}
use Rattle.judge_margins.specs.map.MapText.{obligation_said}
use Rattle.judge_map.specs.{Cells.lost_of, Known.is_held}
use Rattle.draw_map.specs.Words.{ms_said}

-- ---- the declared point

-- this number, if it is the declared least end of each of these parameters
abbrev pub least_if : Line → List ℕ → ℕ → Option ℕ
least_if line params least =
    if list_all (λ p. (declared_ends line p).least == least) params then Some least else None

-- the least end that is declared of each of these parameters, if it is one
abbrev pub least_of : Line → List ℕ → Option ℕ
least_of line [] = None
least_of line (param ∷ params) = least_if line params (declared_ends line param).least

-- the number of an axis that it is, if it is one
abbrev pub number_by : Axis → Option ℕ → Option ℕ
number_by axis None = None
number_by axis (Some least) =
    if nat_le axis.first least && nat_le least (least_at axis (count_along axis - 1))
    && (least - axis.first) % axis.step == 0
    then Some ((least - axis.first) / axis.step) else None

abbrev pub number_of : Line → Axis → Option ℕ
number_of line axis = number_by axis (least_of line axis.params.items)

-- without a second axis it is in the one row
abbrev pub row_of : Line → Option Axis → Option ℕ
row_of line None = Some 0
row_of line (Some axis) = number_of line axis

-- ---- from there on

-- what is known of the obligations of the cell at a column and a row
abbrev pub known_at : Axes → List SettledCell → ℕ → ℕ → List Known
known_at axes cells column row =
    get_or (map (λ cell. cell.known.items) cells) (column * rows_of axes.y + row) []

abbrev pub is_held_at : Axes → List SettledCell → ℕ → ℕ → Bool
is_held_at axes cells column row = list_all is_held (known_at axes cells column row)

-- the first number from `from` on, of so many, that does not pass the test
abbrev pub first_from : (ℕ → Bool) → ℕ → ℕ → Option ℕ
first_from test from zero = None
first_from test from (suc n) =
    option_or (first_from test from n) (then_some (not (test (from + n))) (from + n))

-- the last number below n that does not pass the test
abbrev pub last_below : (ℕ → Bool) → ℕ → Option ℕ
last_below test zero = None
last_below test (suc n) = if test n then last_below test n else Some n

-- ---- in words

-- the first that is lost, and how many more are
abbrev pub first_lost_said : Line → List Script → List ℕ → List ℕ
first_lost_said line scripts [] = []
first_lost_said line scripts (place ∷ []) = obligation_said line scripts place
first_lost_said line scripts (place ∷ (next ∷ more)) =
    obligation_said line scripts place
    ++ (codes " and " ++ (decimal (length (next ∷ more)) ++ codes " more"))

-- to which side, from which least end on, and what
abbrev pub side_said : Line → List Script → List ℕ → ℕ → List Known → List ℕ
side_said line scripts side least known =
    side ++ (ms_said line least ++ (codes ": " ++ first_lost_said line scripts (lost_of known)))

abbrev pub across_said : Line → List Script → Axes → List SettledCell → List ℕ → ℕ → Option ℕ
    → List (List ℕ)
across_said line scripts axes cells side row None = []
across_said line scripts axes cells side row (Some column) =
    side_said line scripts side (least_at axes.x column) (known_at axes cells column row) ∷ []

abbrev pub up_said : Line → List Script → Axes → List SettledCell → Axis → List ℕ → ℕ → Option ℕ
    → List (List ℕ)
up_said line scripts axes cells axis side column None = []
up_said line scripts axes cells axis side column (Some row) =
    side_said line scripts side (least_at axis row) (known_at axes cells column row) ∷ []

-- to the right, and to the left
abbrev pub columns_said : Line → List Script → Axes → List SettledCell → ℕ → ℕ → List (List ℕ)
columns_said line scripts axes cells column row =
    across_said line scripts axes cells (codes "right from ") row
    (first_from (λ c. is_held_at axes cells c row) (column + 1) (column_count axes - (column + 1)))
    ++ across_said line scripts axes cells (codes "left from ") row
    (last_below (λ c. is_held_at axes cells c row) column)

-- above, and below
abbrev pub rows_said : Line → List Script → Axes → List SettledCell → Option Axis → ℕ → ℕ → List (List ℕ)
rows_said line scripts axes cells None column row = []
rows_said line scripts axes cells (Some axis) column row =
    up_said line scripts axes cells axis (codes "above from ") column
    (first_from (is_held_at axes cells column) (row + 1) (count_along axis - (row + 1)))
    ++ up_said line scripts axes cells axis (codes "below from ") column
    (last_below (is_held_at axes cells column) row)

-- nothing where the declared point is not among the cells, or is not held
abbrev pub beyond_by : Line → List Script → Axes → List SettledCell → Option ℕ → Option ℕ → List (List ℕ)
beyond_by line scripts axes cells None row = []
beyond_by line scripts axes cells (Some column) None = []
beyond_by line scripts axes cells (Some column) (Some row) =
    if is_held_at axes cells column row
    then columns_said line scripts axes cells column row
    ++ rows_said line scripts axes cells axes.y column row
    else []

abbrev pub beyond_said : Line → List Script → Axes → List SettledCell → List (List ℕ)
beyond_said line scripts axes cells =
    beyond_by line scripts axes cells (number_of line axes.x) (row_of line axes.y)
