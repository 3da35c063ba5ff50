-- What a cell says to a pointer: its least ends, what is known, and what is lost.
use Rattle.std.specs.Prelude.{◌+◌, ◌*◌, ◌/◌, ◌%◌, ◌++◌, ℕ, List, [], ◌∷◌, Option, None, Some, codes}
use Rattle.model_line.specs.{declared.line.Line.Line, declared.script.Script.Script}
use Rattle.judge_margins.specs.{declared.map.axis.Axis.Axis, declared.map.axis.Axes.Axes}
use Rattle.judge_margins.specs.{map.Axes.least_at, map.Axes.rows_of, map.MapText.obligations_said}
use Rattle.judge_map.specs.{declared.cell.SettledCell.SettledCell, declared.cell.Word.Word}
use Rattle.judge_map.specs.declared.cell.Word.TheVariants as word
use Rattle.judge_map.specs.{Cells.lost_of, Cells.word_of, MapText.word_said}
use Rattle.draw_shapes.specs.declared.{grid.GridCell.GridCell, grid.Look.Look}
use Rattle.draw_shapes.specs.declared.grid.Look.TheVariants as look
use Rattle.draw_shapes.specs.Numbers.{milliseconds_said}

-- ticks in milliseconds
abbrev pub ms_said : Line → ℕ → List ℕ
ms_said line ticks = milliseconds_said (ticks * line.tick_us) ++ codes " ms"

abbrev pub row_said : Line → Option Axis → ℕ → List ℕ
row_said line None row = []
row_said line (Some axis) row = codes ", " ++ ms_said line (least_at axis row)

-- the least ends of a cell by its place
abbrev pub point_said : Line → Axes → ℕ → List ℕ
point_said line axes place =
    ms_said line (least_at axes.x (place / rows_of axes.y))
    ++ row_said line axes.y (place % rows_of axes.y)

-- what is lost, if anything is
abbrev pub lost_said : Line → List Script → List ℕ → List ℕ
lost_said line scripts [] = []
lost_said line scripts (place ∷ places) =
    codes ", lost " ++ obligations_said line scripts (place ∷ places)

abbrev pub cell_said : Line → List Script → Axes → ℕ → SettledCell → List ℕ
cell_said line scripts axes place cell =
    point_said line axes place
    ++ (codes ": "
    ++ (word_said (word_of cell.known.items)
    ++ lost_said line scripts (lost_of cell.known.items)))

abbrev pub look_of : Word → Look
look_of word.Held = look.Held
look_of word.Open = look.Open
look_of word.Fails = look.Fails

-- ---- what is seen of the cells

pub record SeenCell : Type 0 where
  pub look : Look
  pub words : List ℕ

abbrev pub cell_seen : GridCell → SeenCell
cell_seen cell = record { look = cell.look; words = cell.words.items }

abbrev pub cell_shown : Line → List Script → Axes → ℕ → SettledCell → SeenCell
cell_shown line scripts axes place cell = record {
  look = look_of (word_of cell.known.items);
  words = cell_said line scripts axes place cell;
}

-- those from this place on
abbrev pub cells_shown : Line → List Script → Axes → ℕ → List SettledCell → List SeenCell
cells_shown line scripts axes place [] = []
cells_shown line scripts axes place (cell ∷ cells) =
    cell_shown line scripts axes place cell ∷ cells_shown line scripts axes (place + 1) cells
