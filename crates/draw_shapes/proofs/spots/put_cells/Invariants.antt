use Rattle.std.proofs.Common.{◌≡◌, ◌++◌, drop}
use Rattle.draw_shapes.specs.Seen.{shapes_seen}
use Rattle.draw_shapes.specs.Cells.{cells_drawn}
use Rattle.draw_shapes.proofs.spots.put_cells.Given as goal

abbrev pub invariant-loop-place : goal.invariant-loop-place
invariant-loop-place l =
    shapes_seen l.shapes.items ++ cells_drawn l.scale l.place (drop l.place l.cells)
    ≡ shapes_seen l.initial.shapes.items ++ cells_drawn l.scale 0 l.cells
