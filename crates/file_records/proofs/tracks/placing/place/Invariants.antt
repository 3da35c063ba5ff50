use Rattle.std.proofs.Common.{◌≡◌, ◌++◌, map, drop}
use Rattle.file_records.specs.map.Recorders.{recorder_values}
use Rattle.file_records.specs.tracks.Tracks.{placed_values, bytes_values, placed_from}
use Rattle.file_records.proofs.tracks.placing.place.Given as goal

abbrev pub invariant-loop-i : goal.invariant-loop-i
invariant-loop-i l =
    map placed_values l.placed.items
    ++ placed_from l.line l.i (map recorder_values (drop l.i l.recorders))
    (map bytes_values (drop l.i l.files))
    ≡ placed_from l.line 0 (map recorder_values l.recorders) (map bytes_values l.files)
