use Rattle.std.proofs.Common.{map}
use Rattle.file_records.specs.tracks.Tracks.{track_values}
use Rattle.file_records.specs.recorded.Changes.{terminal_changes}
use Rattle.file_records.proofs.recorded_lemmas.Items.{rows_more}
use Rattle.file_records.proofs.recorded.changes.push_tick.Goals as goal

pub loop-k-preserved : goal.loop-k-preserved
loop-k-preserved c =
    rows_more c.args.text.now.items c.loop-k.text.items c.push_terminal.new.text.items
    (terminal_changes c.args.script.now c.args.line.now (map track_values c.args.tracks.now)
    c.args.t)
    c.loop-k.k c.loop-k.invariant c.in_ok-push_terminal.ensures
