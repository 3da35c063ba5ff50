use Rattle.std.proofs.Common.{[]}
use Rattle.model_history.specs.EachLaws.{list_more}
use Rattle.file_records.specs.tracks.Tracks.{track_values}
use Rattle.file_records.specs.tracks.Fields.{change_at}
use Rattle.file_records.proofs.tracks.changes.changes_of.Goals as goal

pub loop-t-preserved : goal.loop-t-preserved
loop-t-preserved c =
    list_more [] c.loop-t.changes.items c.push_change.new.changes.items
    (change_at (track_values c.args.track.now)) c.loop-t.t c.loop-t.invariant
    c.in_ok-push_change.ensures
