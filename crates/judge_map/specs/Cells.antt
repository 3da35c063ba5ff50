-- What is known of each obligation over the box of each cell.
use Rattle.std.specs.Prelude.{◌≡◌, ◌+◌, ◌*◌, ◌/◌, ◌%◌, ℕ, List, [], ◌∷◌, Option, Some}
use Rattle.std.specs.Prelude.{length, slice_get, if◌then◌else◌}
use Rattle.std.specs.{List.list_all, List.list_any, List.position, Option.option_or}
use Rattle.model_line.specs.{declared.line.Line.Line, declared.script.Script.Script}
use Rattle.model_line.specs.Parameters.{terminal_count}
use Rattle.model_logic.specs.Choice.{Box}
use Rattle.judge_margins.specs.{declared.map.axis.Axes.Axes, map.Axes.cell_count, map.Axes.place_box}
use Rattle.judge_map.specs.{declared.known.Known.Known, declared.cell.SettledCell.SettledCell}
use Rattle.judge_map.specs.declared.cell.Word.{Word}
use Rattle.judge_map.specs.declared.cell.Word.TheVariants.{Held, Open, Fails}
use Rattle.judge_map.specs.Known.{IsKnown, fails, is_held, is_never_met}

-- what is known of an obligation by its place: script by script, and in each terminal by terminal
pub record IsKnownAt (line : Line) (scripts : List Script) (box : Box) (place : ℕ) (known : Known)
    : Type 0 where
  pub script : Script
  pub at : slice_get scripts (place / terminal_count line) ≡ Some script
  pub is : IsKnown line script (place % terminal_count line) box known

-- the same of the first n obligations
pub record AreKnown (line : Line) (scripts : List Script) (box : Box) (n : ℕ) (known : List Known)
    : Type 0 where
  pub count : length known ≡ n
  pub each : (place : ℕ) (one : Known) → slice_get known place ≡ Some one
      → IsKnownAt line scripts box place one

-- of each obligation
abbrev pub IsSettledCell : Line → List Script → Box → SettledCell → Type 0
IsSettledCell line scripts box cell =
    AreKnown line scripts box (length scripts * terminal_count line) cell.known.items

-- the first n cells, column by column
pub record AreSettledBelow (line : Line) (scripts : List Script) (axes : Axes) (n : ℕ)
    (cells : List SettledCell) : Type 0 where
  pub count : length cells ≡ n
  pub each : (place : ℕ) (cell : SettledCell) → slice_get cells place ≡ Some cell
      → IsSettledCell line scripts (place_box line axes place) cell

abbrev pub AreSettledCells : Line → List Script → Axes → List SettledCell → Type 0
AreSettledCells line scripts axes cells =
    AreSettledBelow line scripts axes (cell_count axes) cells

-- ---- a cell in a word

-- held where each obligation is held, fails where some obligation fails, else open
abbrev pub word_of : List Known → Word
word_of known =
    if list_all is_held known then Held else (if list_any fails known then Fails else Open)

-- the places, from this one on, of the obligations that are not held
abbrev pub lost_from : ℕ → List Known → List ℕ
lost_from place [] = []
lost_from place (one ∷ known) =
    if is_held one then lost_from (place + 1) known else place ∷ lost_from (place + 1) known

-- the obligations that are lost, in order
abbrev pub lost_of : List Known → List ℕ
lost_of known = lost_from 0 known

-- the first that no choice meets, else the first that some choice fails
abbrev pub failing_of : List Known → Option ℕ
failing_of known = option_or (position is_never_met known) (position fails known)
