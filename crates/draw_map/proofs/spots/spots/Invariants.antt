use Rattle.std.proofs.Common.{◌≡◌, ◌++◌, drop, length}
use Rattle.std.specs.Prelude.{map as each}
use Rattle.draw_map.specs.Words.{cell_seen, cells_shown}
use Rattle.draw_map.proofs.spots.spots.Given as goal

abbrev pub invariant-loop-place : goal.invariant-loop-place
invariant-loop-place l =
    (each cell_seen l.spots.items
    ++ cells_shown l.map.line.now l.map.scripts.now l.map.axes.now l.place (drop l.place l.map.cells.now)
    ≡ cells_shown l.map.line.now l.map.scripts.now l.map.axes.now 0 l.map.cells.now)
    × (length l.spots.items ≡ l.place)
