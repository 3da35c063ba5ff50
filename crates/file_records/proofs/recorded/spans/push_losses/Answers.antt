use Rattle.std.proofs.Common.{map, ℕ}
use Rattle.model_history.specs.EachLaws.{list_more}
use Rattle.model_line.specs.declared.script.What.TheVariants as what
use Rattle.file_records.specs.tracks.Tracks.{track_values}
use Rattle.file_records.specs.recorded.Spans.{spans_of}
use Rattle.file_records.proofs.recorded.spans.push_losses.Goals as goal

pub loop-c-preserved : goal.loop-c-preserved
loop-c-preserved c =
    list_more c.args.spans.now.items c.loop-c.spans.items c.push_spans.new.spans.items
    (λ (i : ℕ). spans_of (map track_values c.args.tracks.now) c.args.line.now.horizon (what.Loss i))
    c.loop-c.c c.loop-c.invariant c.in_ok-push_spans.ensures
