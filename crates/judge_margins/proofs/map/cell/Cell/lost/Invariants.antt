use Rattle.std.proofs.Common.{◌≡◌, ◌++◌, drop}
use Rattle.judge_margins.specs.map.Cells.{lost_from, lost_of}
use Rattle.judge_margins.proofs.map.cell.Cell.lost.Given as goal

abbrev pub invariant-loop-place : goal.invariant-loop-place
invariant-loop-place l =
    l.lost.items ++ lost_from l.place (drop l.place l.self.rules.items)
    ≡ lost_of l.self.rules.items
