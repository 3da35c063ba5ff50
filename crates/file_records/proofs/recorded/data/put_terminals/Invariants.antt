use Rattle.std.proofs.Common.{◌≡◌, ◌++◌}
use Rattle.model_history.specs.Each.{each_below}
use Rattle.run_changes.specs.changes.PlayedTracks.{played}
use Rattle.file_records.specs.recorded.Data.{terminal_fields}
use Rattle.file_records.proofs.recorded.data.put_terminals.Given as goal

abbrev pub invariant-loop-k : goal.invariant-loop-k
invariant-loop-k l =
    l.text.items ≡ l.initial.text.items ++ each_below l.k (terminal_fields l.script (played l.tracks.keys.items l.tracks.trips.items) l.t)
