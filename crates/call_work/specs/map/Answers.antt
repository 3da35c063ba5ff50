-- What a map answers.
use Rattle.std.specs.Prelude.{◌≡◌, ℕ, List, [], Option, None, Some}
use Rattle.model_line.specs.{declared.line.Line.Line, declared.script.Script.Script}
use Rattle.judge_margins.specs.declared.map.axis.Axes.{Axes}
use Rattle.judge_map.specs.{Cells.AreSettledCells, MapText.map_text}
use Rattle.judge_map.specs.declared.cell.SettledCell.{SettledCell}
use Rattle.draw_shapes.specs.{Drawings.drawing_of, declared.grid.Grid.Grid}
use Rattle.draw_map.specs.Grids.{IsGridOf}
use Rattle.draw_shapes.specs.Svg.{svg_of}
use Rattle.file_study.specs.times.Parts.{names_of}
use Rattle.call_answer.specs.Answers.{Answers, prints}
use Rattle.call_ask.specs.declared.map.MapForm.{MapForm}
use Rattle.call_work.specs.map.Asked.{AreAxesOf, Both}
use Rattle.call_ask.specs.declared.map.MapForm.TheVariants as form

-- what is known of each obligation over the cells of these axes, as records
pub record IsRecordsText (line : Line) (scripts : List Script) (axes : Axes) (text : List ℕ)
    : Type 0 where
  pub cells : List SettledCell
  pub are : AreSettledCells line scripts axes cells
  pub printed : text ≡ map_text line scripts axes cells

-- the same cells as the printed form of the drawing of their grid, whose axes go by these names, made
-- by what these words say
pub record IsDrawingText (line : Line) (scripts : List Script) (axes : Axes) (x y made text : List ℕ)
    : Type 0 where
  pub cells : List SettledCell
  pub are : AreSettledCells line scripts axes cells
  pub grid : Grid
  pub shows : IsGridOf line scripts axes cells x y grid
  pub printed : text ≡ svg_of made (drawing_of grid)

-- the names of the second words, if there are any
abbrev pub second_names : Option (List ℕ) → List ℕ
second_names None = []
second_names (Some words) = names_of words

abbrev pub IsTextOver : Line → List Script → MapForm → List ℕ → Option (List ℕ) → List ℕ → Axes
    → List ℕ → Type 0
IsTextOver line scripts form.Drawing x y made axes text =
    IsDrawingText line scripts axes (names_of x) (second_names y) made text
IsTextOver line scripts form.Records x y made axes text = IsRecordsText line scripts axes text

-- over the axes that the words ask for
pub record IsMapText (line : Line) (scripts : List Script) (form : MapForm) (x : List ℕ)
    (y : Option (List ℕ)) (made : List ℕ) (both : Both) (text : List ℕ) : Type 0 where
  pub axes : Axes
  pub of : AreAxesOf both axes
  pub told : IsTextOver line scripts form x y made axes text

abbrev pub map_answer : Line → List Script → MapForm → List ℕ → Option (List ℕ) → List ℕ → Both
    → Answers
map_answer line scripts form x y made both =
    prints (IsMapText line scripts form x y made both)
