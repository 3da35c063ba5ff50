use Rattle.std.proofs.Common.{◌≡◌, ◌++◌, drop}
use Rattle.judge_map.specs.MapText.{cell_rows, map_text}
use Rattle.judge_map.proofs.text.map_text.Given as goal

abbrev pub invariant-loop-place : goal.invariant-loop-place
invariant-loop-place l =
    l.text.items ++ cell_rows l.line l.scripts l.axes l.place (drop l.place l.cells)
    ≡ map_text l.line l.scripts l.axes l.cells
