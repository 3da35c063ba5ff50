-- What is drawn: a line, its scripts, axes and the cells over them.
use Rattle.std.specs.Prelude.{◌≡◌, ◌≤◌, ◌*◌, Option, None, Some, length}
use Rattle.std.specs.List.{All}
use Rattle.model_line.specs.Parameters.{terminal_count}
use Rattle.judge_margins.specs.{declared.map.axis.Axis.Axis, map.Axes.AreAxes, map.Axes.cell_count}
use Rattle.draw_map.specs.declared.map.Map.{Map}

abbrev pub IsSmallSecond : Option Axis → Type 0
IsSmallSecond None = Unit {0}
IsSmallSecond (Some axis) = axis.step ≤ 4000

-- the axes are the line's, their steps at most 4,000 ticks, and there is a cell for each of their
-- numbers with what is known of each obligation
pub record IsMap (map : Map) : Type 0 where
  pub axes : AreAxes map.line.now map.axes.now
  pub x_step : map.axes.now.x.step ≤ 4000
  pub y_step : IsSmallSecond map.axes.now.y
  pub cells : length map.cells.now ≡ cell_count map.axes.now
  pub known : All (λ cell. length cell.known.items ≡ length map.scripts.now * terminal_count map.line.now)
      map.cells.now
  pub few : length map.scripts.now ≤ 4096
