use Rattle.std.proofs.Common.{◌∷◌, [], map}
use Rattle.file_records.specs.map.Recorders.{recorder_values}
use Rattle.file_tables.specs.script.Printed.{records_text}
use Rattle.file_records.specs.tracks.Tracks.{placed_values, track_values}
use Rattle.file_records.specs.tracks.Rows.{header_record, record_at}
use Rattle.file_records.proofs.recorded_lemmas.Items.{rows_more}
use Rattle.file_records.proofs.tracks.table.sources_text.Goals as goal

pub loop-i-preserved : goal.loop-i-preserved
loop-i-preserved c =
    rows_more (records_text (header_record ∷ [])) c.loop-i.text.items c.push_at.new.text.items
    (record_at c.args.table.now.line.now (map recorder_values c.args.table.now.recorders.now)
    (map placed_values c.args.table.now.placed.now) (map track_values c.args.table.now.tracks.now))
    c.loop-i.i c.loop-i.invariant c.in_ok-push_at.ensures
