use Rattle.std.proofs.Common.{◌≡◌, ◌++◌, map, take}
use Rattle.file_records.specs.{map.Recorders.recorder_values, map.Sources.source_values}
use Rattle.file_records.specs.tracks.Tracks.{placed_values, bytes_values, placed_at}
use Rattle.file_records.proofs.tracks.placing.push_recorder.Given as goal

abbrev pub invariant-loop-source : goal.invariant-loop-source
invariant-loop-source l =
    map placed_values l.placed.items ≡ map placed_values l.fn.placed.items
    ++ map (placed_at l.line l.i (recorder_values l.recorder) (bytes_values l.bytes))
    (map source_values (take l.source-index l.recorder.signals.sources.items))
