use Rattle.std.proofs.Common.{◌+◌}
use Rattle.judge_margins.specs.{map.Cells.AreCellsBelow}
use Rattle.judge_margins.proofs.map.grid.next_cells.Given as goal

abbrev pub invariant-loop-lane : goal.invariant-loop-lane
invariant-loop-lane l = AreCellsBelow l.compiled.line.now l.scripts l.axes (l.first + l.lane)
    l.cells.items
