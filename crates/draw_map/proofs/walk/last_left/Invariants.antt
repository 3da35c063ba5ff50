use Rattle.std.proofs.Common.{◌≡◌, ◌<◌}
use Rattle.std.specs.Prelude.{IfSome}
use Rattle.judge_margins.specs.map.Axes.{column_count}
use Rattle.draw_map.specs.Beyond.{last_below, is_held_at}
use Rattle.draw_map.proofs.walk.last_left.Given as goal

abbrev pub invariant-loop-c : goal.invariant-loop-c
invariant-loop-c l =
    (l.found ≡ last_below (λ c. is_held_at l.map.axes.now l.map.cells.now c l.row) l.c)
    × IfSome l.found (λ k. k < column_count l.map.axes.now)
