use Rattle.std.proofs.Common.{◌≡◌, ◌<◌}
use Rattle.std.specs.Prelude.{IfSome}
use Rattle.judge_margins.specs.map.Axes.{column_count}
use Rattle.draw_map.specs.Beyond.{first_from, is_held_at}
use Rattle.draw_map.proofs.walk.first_right.Given as goal

abbrev pub invariant-loop-n : goal.invariant-loop-n
invariant-loop-n l =
    (l.found ≡ first_from (λ c. is_held_at l.map.axes.now l.map.cells.now c l.row) l.from l.n)
    × IfSome l.found (λ k. k < column_count l.map.axes.now)
