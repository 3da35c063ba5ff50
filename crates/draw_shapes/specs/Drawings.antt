-- The drawing of a grid: what a reader sees of it.
use Rattle.std.specs.Prelude.{◌+◌, ◌++◌, ℕ, List, [], ◌∷◌, map, max, length}
use Rattle.model_history.specs.Each.{each_below}
use Rattle.draw_shapes.specs.declared.class.Class.TheVariants as class
use Rattle.draw_shapes.specs.{Seen.SeenFigure, Seen.SeenShape, Seen.SeenDrawing}
use Rattle.draw_shapes.specs.Seen as seen
use Rattle.draw_shapes.specs.declared.{grid.Grid.Grid, scale.Scale.Scale}
use Rattle.draw_shapes.specs.declared.legend.TheConstants.{ENTRIES}
use Rattle.draw_shapes.specs.Scale.{bottom_of, scale_of}
use Rattle.draw_shapes.specs.Cells.{bars_at, cells_drawn}
use Rattle.draw_shapes.specs.Numbers.{columns_said, rows_said}
use Rattle.draw_shapes.specs.Legend.{beyond_said, entries_from, mark}

-- below the cells stand numbers, beside them the legend
abbrev pub height_of : Scale → ℕ
height_of scale = max (bottom_of scale + 600) 4000

-- paper as large as the drawing, and two lines of words
abbrev pub head_drawn : Scale → Grid → List SeenFigure
head_drawn scale grid =
    seen.rectangle class.Paper 0 0 10000 (height_of scale)
    ∷ (seen.text class.Heading 140 300 grid.title.items
    ∷ (seen.text class.Quiet 140 530 grid.note.items ∷ []))

abbrev pub rulers_drawn : Scale → Grid → List SeenFigure
rulers_drawn scale grid = columns_said scale grid.x ++ rows_said scale grid.y

abbrev pub border_drawn : Scale → Grid → List SeenFigure
border_drawn scale grid =
    each_below (length grid.cells.items) (bars_at scale grid.cells.items)

abbrev pub legend_drawn : Scale → Grid → List SeenFigure
legend_drawn scale grid =
    entries_from scale grid 1100 ENTRIES
    ++ beyond_said (map (λ words. words.items) grid.beyond.items)

-- the later shapes over the earlier ones
abbrev pub shapes_by : Scale → Grid → List SeenShape
shapes_by scale grid =
    seen.plain (head_drawn scale grid)
    ∷ (cells_drawn scale 0 grid.cells.items
    ++ (seen.plain (border_drawn scale grid)
    ∷ (seen.plain (rulers_drawn scale grid)
    ∷ (seen.plain (mark scale grid)
    ∷ (seen.plain (legend_drawn scale grid) ∷ [])))))

abbrev pub drawing_of : Grid → SeenDrawing
drawing_of grid = record {
  title = grid.title.items;
  height = height_of (scale_of grid);
  shapes = shapes_by (scale_of grid) grid;
}
