use Rattle.std.proofs.Common.{◌≡◌, ◌++◌}
use Rattle.model_history.specs.Each.{each_below}
use Rattle.draw_shapes.specs.Seen.{figures_seen}
use Rattle.draw_shapes.specs.Cells.{bars_at}
use Rattle.draw_shapes.proofs.border.put_border.Given as goal

abbrev pub invariant-loop-place : goal.invariant-loop-place
invariant-loop-place l =
    figures_seen l.figures.items
    ≡ figures_seen l.initial.figures.items ++ each_below l.place (bars_at l.scale l.cells)
