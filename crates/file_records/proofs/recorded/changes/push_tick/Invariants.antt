use Rattle.std.proofs.Common.{◌≡◌, ◌++◌, map}
use Rattle.model_history.specs.Each.{each_below}
use Rattle.file_tables.specs.script.Printed.{records_text}
use Rattle.file_records.specs.tracks.Tracks.{track_values}
use Rattle.file_records.specs.recorded.Changes.{terminal_changes}
use Rattle.file_records.proofs.recorded.changes.push_tick.Given as goal

abbrev pub invariant-loop-k : goal.invariant-loop-k
invariant-loop-k l =
    l.text.items ≡ l.initial.text.items ++ records_text
    (each_below l.k (terminal_changes l.script l.line (map track_values l.tracks) l.t))
