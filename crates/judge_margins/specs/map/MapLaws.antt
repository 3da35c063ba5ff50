-- The laws of cells, each under the name of the function that ensures it.
use Rattle.std.specs.Prelude.{◌≡◌, ◌<◌, ℕ, List, Option, None, Some, length, slice_get}
use Rattle.std.specs.List.{All}
use Rattle.model_line.specs.{declared.line.Line.Line, declared.script.Script.Script, Fits.Fits}
use Rattle.model_line.specs.Parameters.{terminal_count}
use Rattle.model_logic.specs.Boxes.{IsSameBox}
use Rattle.model_logic.specs.Choice.{Choice, IsWithin, declared_box}
use Rattle.model_logic.specs.Histories.{History, IsLineHistory, Meets}
use Rattle.judge_margins.specs.{declared.map.axis.Axis.Axis, declared.map.axis.Axes.Axes}
use Rattle.judge_margins.specs.declared.map.cell.Cell.{Cell}
use Rattle.judge_margins.specs.declared.map.cell.Word.TheVariants.{Held}
use Rattle.judge_margins.specs.map.Axes.{AreAxes, CanMoveBoth, cell_box, column_count, least_at, row_count}
use Rattle.judge_margins.specs.map.Cells.{IsCell, word_of}
use Rattle.judge_margins.specs.map.Placed.{IsPlaced}

-- in a cell that is held every history of every choice meets every obligation
abbrev pub AHeldCellIsMet : Type 0
AHeldCellIsMet =
    (line : Line) (scripts : List Script) (axes : Axes) (column row s k : ℕ) (cell : Cell)
    (script : Script) → All (Fits line) scripts → AreAxes line axes → CanMoveBoth line axes
    → column < column_count axes → row < row_count axes
    → IsCell line scripts (cell_box line axes column row) cell → word_of cell.rules.items ≡ Held
    → slice_get scripts s ≡ Some script → k < terminal_count line → (choice : Choice) (h : History)
    → IsWithin line choice (cell_box line axes column row) → IsLineHistory line script choice h
    → Meets line script k h

-- what the second axis places of a line that the first has placed
abbrev pub IsPlacedUp : Line → Option Axis → ℕ → Line → Line → Type 0
IsPlacedUp line None row between other = other ≡ between
IsPlacedUp line (Some axis) row between other =
    IsPlaced between axis.params.items (least_at axis row) (length axis.params.items) other

-- a cell is the declared box of the line whose intervals are placed there, axis after axis
abbrev pub ACellIsOfThePlacedLine : Type 0
ACellIsOfThePlacedLine =
    (line between other : Line) (axes : Axes) (column row : ℕ) → AreAxes line axes
    → IsPlaced line axes.x.params.items (least_at axes.x column) (length axes.x.params.items) between
    → IsPlacedUp line axes.y row between other
    → IsSameBox line (declared_box other) (cell_box line axes column row)
