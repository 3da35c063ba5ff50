use Rattle.std.proofs.Common.{◌≡◌, ◌∷◌, [], ◌++◌, map}
use Rattle.model_history.specs.Each.{each_below}
use Rattle.file_records.specs.map.Recorders.{recorder_values}
use Rattle.file_tables.specs.script.Printed.{records_text}
use Rattle.file_records.specs.tracks.Tracks.{placed_values, track_values}
use Rattle.file_records.specs.tracks.Rows.{header_record, record_at}
use Rattle.file_records.proofs.tracks.table.sources_text.Given as goal

abbrev pub invariant-loop-i : goal.invariant-loop-i
invariant-loop-i l =
    l.text.items ≡ records_text (header_record ∷ []) ++ records_text
    (each_below l.i (record_at l.table.line.now (map recorder_values l.table.recorders.now)
    (map placed_values l.table.placed.now) (map track_values l.table.tracks.now)))
