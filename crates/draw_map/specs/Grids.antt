-- The cells of a map as a grid that is drawn.
use Rattle.std.specs.Prelude.{◌≡◌, ◌*◌, ◌++◌, ℕ, List, [], Option, None, Some, codes, decimal, length, map}
use Rattle.std.specs.Prelude.{option_map}
use Rattle.model_line.specs.{declared.line.Line.Line, declared.script.Script.Script}
use Rattle.model_line.specs.Parameters.{terminal_count}
use Rattle.judge_margins.specs.{declared.map.axis.Axis.Axis, declared.map.axis.Axes.Axes}
use Rattle.judge_margins.specs.map.Axes.{count_along}
use Rattle.judge_map.specs.declared.cell.SettledCell.{SettledCell}
use Rattle.draw_shapes.specs.declared.{grid.Grid.Grid, grid.Ruler.Ruler}
use Rattle.draw_map.specs.{Beyond.beyond_said, Beyond.least_of, Words.cell_seen, Words.cells_shown}

abbrev pub and_second : Option Axis → List ℕ → List ℕ
and_second None names = []
and_second (Some axis) names = codes " and " ++ names

-- the names are those that the words of each axis give
abbrev pub title_said : Axes → List ℕ → List ℕ → List ℕ
title_said axes x y = codes "Where each obligation is held: " ++ (x ++ and_second axes.y y)

abbrev pub note_said : Line → List Script → List ℕ
note_said line scripts =
    codes "Scripts and obligations: "
    ++ (decimal (length scripts)
    ++ (codes " and "
    ++ (decimal (length scripts * terminal_count line)
    ++ codes ". Intervals keep their widths, all else is as declared. Held: every choice meets each obligation; fails: some choice fails one.")))

-- times in microseconds: the numbers of an axis, and the one that is declared
pub record IsRulerOf (line : Line) (names : List ℕ) (axis : Axis) (ruler : Ruler) : Type 0 where
  pub words : ruler.words.items ≡ codes "least end of " ++ (names ++ codes ", ms")
  pub first : ruler.first ≡ axis.first * line.tick_us
  pub step : ruler.step ≡ axis.step * line.tick_us
  pub count : ruler.count ≡ count_along axis
  pub declared : ruler.declared
      ≡ option_map (λ least. least * line.tick_us) (least_of line axis.params.items)

abbrev pub IsSecondOf : Line → List ℕ → Option Axis → Option Ruler → Type 0
IsSecondOf line names None None = Unit {0}
IsSecondOf line names None (Some ruler) = ⊥
IsSecondOf line names (Some axis) None = ⊥
IsSecondOf line names (Some axis) (Some ruler) = IsRulerOf line names axis ruler

-- each cell as what is known of it, the rulers of the axes, and what is lost first beyond
pub record IsGridOf (line : Line) (scripts : List Script) (axes : Axes) (cells : List SettledCell)
    (x y : List ℕ) (grid : Grid) : Type 0 where
  pub title : grid.title.items ≡ title_said axes x y
  pub note : grid.note.items ≡ note_said line scripts
  pub across : IsRulerOf line x axes.x grid.x
  pub up : IsSecondOf line y axes.y grid.y
  pub spots : map cell_seen grid.cells.items ≡ cells_shown line scripts axes 0 cells
  pub declared : grid.declared.items ≡ codes "as declared"
  pub beyond : map (λ words. words.items) grid.beyond.items
      ≡ beyond_said line scripts axes cells
