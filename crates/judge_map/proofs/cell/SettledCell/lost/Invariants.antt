use Rattle.std.proofs.Common.{◌≡◌, ◌++◌, drop}
use Rattle.judge_map.specs.Cells.{lost_from, lost_of}
use Rattle.judge_map.proofs.cell.SettledCell.lost.Given as goal

abbrev pub invariant-loop-place : goal.invariant-loop-place
invariant-loop-place l =
    l.lost.items ++ lost_from l.place (drop l.place l.self.known.items)
    ≡ lost_of l.self.known.items
