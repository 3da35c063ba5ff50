use Rattle.std.proofs.Common.{◌≡◌, ◌++◌, map}
use Rattle.model_history.specs.Each.{each_below}
use Rattle.file_records.specs.tracks.Tracks.{track_values}
use Rattle.file_records.specs.recorded.Spans.{terminal_spans}
use Rattle.file_records.proofs.recorded.spans.push_terminals.Given as goal

abbrev pub invariant-loop-k : goal.invariant-loop-k
invariant-loop-k l =
    l.spans.items ≡ l.initial.spans.items
    ++ each_below l.k (terminal_spans (map track_values l.tracks) l.line.horizon)
