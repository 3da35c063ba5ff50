use Rattle.std.proofs.Common.{◌≡◌, ◌<◌}
use Rattle.std.specs.Prelude.{IfSome}
use Rattle.judge_margins.specs.map.Axes.{row_count}
use Rattle.draw_map.specs.Beyond.{last_below, is_held_at}
use Rattle.draw_map.proofs.walk.last_beneath.Given as goal

abbrev pub invariant-loop-r : goal.invariant-loop-r
invariant-loop-r l =
    (l.found ≡ last_below (is_held_at l.map.axes.now l.map.cells.now l.column) l.r)
    × IfSome l.found (λ k. k < row_count l.map.axes.now)
