-- The box of a cell: its intervals are in order, and each delay is at least 1.
use Rattle.std.proofs.Common.{◌≡◌, ◌≤◌, ◌<◌, ◌||◌, ℕ, zero, suc, Bool, true, false, cond, List, []}
use Rattle.std.proofs.Common.{◌∷◌, Option, None, Some, subst, sym, ap, refl, arith, inl, inr}
use Rattle.std.proofs.lemmas.Bool.{cases_eq, ne_eqb}
use Rattle.std.specs.Prelude.{slice_get, ◌==◌}
use Rattle.std.specs.List.{list_any}
use Rattle.model_history.specs.Rails.{Ends}
use Rattle.model_line.specs.{declared.line.Line.Line}
use Rattle.model_line.specs.Parameters.{declared_ends, delay_param, param_count}
use Rattle.model_logic.specs.Choice.{LeastFromOne}
use Rattle.model_settle.specs.Worst.{IsOrdered}
use Rattle.judge_margins.specs.{declared.map.axis.Axis.Axis, declared.map.axis.Axes.Axes, map.Placed.CanPlace}
use Rattle.judge_margins.specs.map.Axes.{CanMove, CanMoveBoth, CanMoveSecond, cell_box, cell_ends, column_count}
use Rattle.judge_margins.specs.map.Axes.{count_along, ends_along, ends_up, least_at, moved, moves, row_count}
use Rattle.judge_margins.specs.map.Axes.{rows_of}
use Rattle.judge_margins.specs.map.PlaceLaws.{can_place}
use Rattle.judge_map.specs.Laws.{Laws}

module _ (P : Ends → Type 0) (line : Line) (param : ℕ) where
  -- what is so of an interval where it is moved, and of it as it was, is so along an axis
  so_along : (axis : Axis) (n : ℕ) (ends : ℕ → Ends) (b : Bool) → moves axis param ≡ b
      → (moves axis param ≡ true → P (moved line param (least_at axis n))) → P (ends param)
      → P (ends_along line axis n ends param)
  so_along axis n ends true is here there =
      subst (λ (b : Bool). P (cond b (moved line param (least_at axis n)) (ends param))) (sym is)
      (here is)
  so_along axis n ends false is here there =
      subst (λ (b : Bool). P (cond b (moved line param (least_at axis n)) (ends param))) (sym is)
      there

  so_up : (y : Option Axis) (row : ℕ) (ends : ℕ → Ends) → CanMoveSecond line y → row < rows_of y
      → ((least : ℕ) → CanPlace line least param → P (moved line param least)) → P (ends param)
      → P (ends_up line y row ends param)
  so_up None row ends can inside here there = there
  so_up (Some axis) row ends can inside here there =
      so_along axis row ends (moves axis param) refl
      (λ is. here (least_at axis row) (can_place line axis row param can inside is)) there

  -- and so of the interval of a cell
  so_in_cell : (axes : Axes) (column row : ℕ) → CanMoveBoth line axes → column < column_count axes
      → row < row_count axes
      → ((least : ℕ) → CanPlace line least param → P (moved line param least))
      → P (declared_ends line param) → P (cell_ends line axes column row param)
  so_in_cell axes column row can in_column in_row here there =
      so_up axes.y row (ends_along line axes.x column (declared_ends line)) can.y in_row here
      (so_along axes.x column (declared_ends line) (moves axes.x param) refl
      (λ is. here (least_at axes.x column) (can_place line axes.x column param can.x in_column is))
      there)

module _ (laws : Laws) (line : Line) (axes : Axes) (column row : ℕ) (can : CanMoveBoth line axes)
    (in_column : column < column_count axes) (in_row : row < row_count axes) where
  in_order : (i : ℕ) → i < param_count line
      → (cell_ends line axes column row i).least ≤ (cell_ends line axes column row i).greatest
  in_order i lt =
      so_in_cell (λ ends. ends.least ≤ ends.greatest) line i axes column row can in_column in_row
      (λ least placed. omega arith) (laws.ordered.ordered line i lt)

  pub cell_ordered : IsOrdered line (cell_box line axes column row)
  cell_ordered = record {
    numbers = in_order;
    delays = λ c t lt early. in_order (delay_param line c) (laws.lines.parameters.delays line c lt);
  }

  pub cell_from_one : LeastFromOne line (cell_box line axes column row)
  cell_from_one c t lt early =
      let delay = delay_param line c in
      so_in_cell (λ ends. 1 ≤ ends.least) line delay axes column row can in_column in_row
      (λ least placed. placed.delay (laws.delays.told line c lt)) (line.delays_from_one c lt)
