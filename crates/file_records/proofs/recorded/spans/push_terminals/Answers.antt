use Rattle.std.proofs.Common.{map}
use Rattle.model_history.specs.EachLaws.{list_more}
use Rattle.file_records.specs.tracks.Tracks.{track_values}
use Rattle.file_records.specs.recorded.Spans.{terminal_spans}
use Rattle.file_records.proofs.recorded.spans.push_terminals.Goals as goal

pub loop-k-preserved : goal.loop-k-preserved
loop-k-preserved c =
    list_more c.args.spans.now.items c.loop-k.spans.items c.push_terminal.new.spans.items
    (terminal_spans (map track_values c.args.tracks.now) c.args.line.now.horizon)
    c.loop-k.k c.loop-k.invariant c.in_ok-push_terminal.ensures
