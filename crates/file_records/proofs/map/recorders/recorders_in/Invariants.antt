use Rattle.std.proofs.Common.{◌≡◌, [], drop, map}
use Rattle.toml.specs.View.{items_view}
use Rattle.file_records.specs.map.Recorders.{recorder_values, recorders_in}
use Rattle.file_records.proofs.map.recorders.recorders_in.Given as goal

abbrev pub invariant-loop-i : goal.invariant-loop-i
invariant-loop-i l =
    recorders_in l.line l.start l.path l.i (items_view (drop l.i l.items))
    (map recorder_values l.recorders.items)
    ≡ recorders_in l.line l.start l.path 0 (items_view l.items) []
