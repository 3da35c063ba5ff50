use Rattle.model_history.specs.EachLaws.{list_more}
use Rattle.run_changes.specs.changes.PlayedTracks.{played}
use Rattle.file_records.specs.recorded.Data.{sample_text}
use Rattle.file_records.proofs.recorded.data.put_samples.Goals as goal

pub loop-t-preserved : goal.loop-t-preserved
loop-t-preserved c =
    list_more c.args.text.now.items c.loop-t.text.items c.put_sample.new.text.items
    (sample_text c.args.line.now c.args.script.now
    (played c.args.tracks.now.keys.items c.args.tracks.now.trips.items)) c.loop-t.t
    c.loop-t.invariant c.in_ok-put_sample.ensures
