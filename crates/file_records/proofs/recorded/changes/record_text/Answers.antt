use Rattle.std.proofs.Common.{◌∷◌, [], map}
use Rattle.judge_match.specs.matching.Row.{header_record}
use Rattle.file_tables.specs.script.Printed.{records_text}
use Rattle.file_records.specs.tracks.Tracks.{track_values}
use Rattle.file_records.specs.recorded.Changes.{head_record, tick_changes}
use Rattle.file_records.proofs.recorded_lemmas.Items.{rows_more}
use Rattle.file_records.proofs.recorded.changes.record_text.Goals as goal

pub loop-t-preserved : goal.loop-t-preserved
loop-t-preserved c =
    rows_more (records_text (header_record ∷ head_record c.args.script.now ∷ []))
    c.loop-t.text.items c.push_tick.new.text.items
    (tick_changes c.args.script.now c.args.line.now (map track_values c.args.tracks.now))
    c.loop-t.t c.loop-t.invariant c.in_ok-push_tick.ensures
