use Rattle.std.proofs.Common.{map}
use Rattle.model_history.specs.EachLaws.{list_more}
use Rattle.file_records.specs.declared.map.source.Signal.TheVariants.{Shown}
use Rattle.file_records.specs.{tracks.Levels.is_on, tracks.Tracks.track_values}
use Rattle.file_records.specs.recorded.Spans.{span_from}
use Rattle.file_records.proofs.recorded.spans.push_spans.Goals as goal

pub loop-t-preserved : goal.loop-t-preserved
loop-t-preserved c =
    list_more c.args.spans.now.items c.loop-t.spans.items c.push_span.new.spans.items
    (span_from c.args.what (is_on (map track_values c.args.tracks.now) (Shown c.args.what))
    c.args.horizon)
    c.loop-t.t c.loop-t.invariant c.in_ok-push_span.ensures
