use Rattle.std.proofs.Common.{◌≡◌, ◌++◌, map}
use Rattle.model_history.specs.Each.{each_below}
use Rattle.model_line.specs.declared.script.What.TheVariants as what
use Rattle.file_records.specs.tracks.Tracks.{track_values}
use Rattle.file_records.specs.recorded.Spans.{spans_of}
use Rattle.file_records.proofs.recorded.spans.push_losses.Given as goal

abbrev pub invariant-loop-c : goal.invariant-loop-c
invariant-loop-c l =
    l.spans.items ≡ l.initial.spans.items
    ++ each_below l.c (λ c. spans_of (map track_values l.tracks) l.line.horizon (what.Loss c))
