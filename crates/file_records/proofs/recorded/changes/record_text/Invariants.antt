use Rattle.std.proofs.Common.{◌≡◌, ◌∷◌, [], ◌++◌, map}
use Rattle.model_history.specs.Each.{each_below}
use Rattle.judge_match.specs.matching.Row.{header_record}
use Rattle.file_tables.specs.script.Printed.{records_text}
use Rattle.file_records.specs.tracks.Tracks.{track_values}
use Rattle.file_records.specs.recorded.Changes.{head_record, tick_changes}
use Rattle.file_records.proofs.recorded.changes.record_text.Given as goal

abbrev pub invariant-loop-t : goal.invariant-loop-t
invariant-loop-t l =
    l.text.items ≡ records_text (header_record ∷ head_record l.script ∷ []) ++ records_text
    (each_below l.t (tick_changes l.script l.line (map track_values l.tracks)))
