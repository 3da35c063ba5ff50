use Rattle.std.proofs.Common.{◌≡◌, ◌++◌, map}
use Rattle.model_history.specs.Each.{each_below}
use Rattle.file_records.specs.declared.map.source.Signal.TheVariants.{Shown}
use Rattle.file_records.specs.{tracks.Levels.is_on, tracks.Tracks.track_values}
use Rattle.file_records.specs.recorded.Spans.{span_from}
use Rattle.file_records.proofs.recorded.spans.push_spans.Given as goal

abbrev pub invariant-loop-t : goal.invariant-loop-t
invariant-loop-t l =
    l.spans.items ≡ l.initial.spans.items
    ++ each_below l.t (span_from l.what (is_on (map track_values l.tracks) (Shown l.what)) l.horizon)
