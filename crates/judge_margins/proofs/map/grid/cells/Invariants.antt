use Rattle.std.proofs.Common.{◌-◌, ◌≤◌, length}
use Rattle.judge_margins.specs.{map.Axes.cell_count, map.Cells.AreCellsBelow}
use Rattle.judge_margins.proofs.map.grid.cells.Given as goal

abbrev pub invariant-next_block : goal.invariant-next_block
invariant-next_block l = record {
  within : length l.cells.items ≤ cell_count l.axes;
  cells : AreCellsBelow l.compiled.line.now l.scripts l.axes (length l.cells.items) l.cells.items;
}

abbrev pub decreases-next_block : goal.decreases-next_block
decreases-next_block l = cell_count l.axes - length l.cells.items
