-- Where the cells of a grid lie, and the times of its rulers. Lengths are tenths of a pixel, times
-- microseconds.
use Rattle.std.specs.Prelude.{◌≡◌, ◌≤◌, ◌+◌, ◌-◌, ◌*◌, ◌/◌, ◌^◌, ℕ, Option, None, Some, length}
use Rattle.std.specs.Prelude.{min, max}
use Rattle.draw_shapes.specs.declared.{grid.Ruler.Ruler, grid.Grid.Grid, scale.Scale.Scale}

-- ---- what can be drawn

-- one time or more, up to 4,001, none of them beyond what is drawn
pub record IsRuler (ruler : Ruler) : Type 0 where
  pub some : 1 ≤ ruler.count
  pub few : ruler.count ≤ 4001
  pub step : 1 ≤ ruler.step
  pub small : ruler.first + ruler.count * ruler.step ≤ 10 ^ 11

abbrev pub IsSecondRuler : Option Ruler → Type 0
IsSecondRuler None = Unit {0}
IsSecondRuler (Some ruler) = IsRuler ruler

abbrev pub row_count : Option Ruler → ℕ
row_count None = 1
row_count (Some ruler) = ruler.count

-- a cell for each column and row, column by column, each from its lowest row on
pub record IsGrid (grid : Grid) : Type 0 where
  pub x : IsRuler grid.x
  pub y : IsSecondRuler grid.y
  pub cells : length grid.cells.items ≡ grid.x.count * row_count grid.y
  pub few : length grid.beyond.items ≤ 4

-- ---- the scale

-- the cells fill 580 pixels by 420, each at most 40 by 30
abbrev pub scale_of : Grid → Scale
scale_of grid = record {
  columns = grid.x.count;
  rows = row_count grid.y;
  width = max (min (5800 / grid.x.count) 400) 1;
  height = max (min (4200 / row_count grid.y) 300) 1;
}

-- a scale that a grid may have
pub record IsScale (scale : Scale) : Type 0 where
  pub some : 1 ≤ scale.rows
  pub columns : scale.columns ≤ 4001
  pub rows : scale.rows ≤ 4001
  pub width : scale.width ≤ 400
  pub height : scale.height ≤ 300

-- the left end of a column
abbrev pub x_of : Scale → ℕ → ℕ
x_of scale column = 1200 + column * scale.width

-- the lower end of all rows
abbrev pub bottom_of : Scale → ℕ
bottom_of scale = 1100 + scale.rows * scale.height

-- the upper end of a row, the lowest of which is row 0
abbrev pub y_of : Scale → ℕ → ℕ
y_of scale row = bottom_of scale - (row + 1) * scale.height

-- how far from the first end a time lies along a ruler whose cells are so long: that of a cell lies
-- in its middle
abbrev pub along : Ruler → ℕ → ℕ → ℕ
along ruler long time = (time - ruler.first) * long / ruler.step + long / 2

-- the last time of a ruler
abbrev pub last_of : Ruler → ℕ
last_of ruler = ruler.first + (ruler.count - 1) * ruler.step
