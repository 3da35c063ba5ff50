-- The table of the sources of a map: a record for each.
use Rattle.std.specs.Prelude.{◌++◌, ℕ, List, [], ◌∷◌, Option, None, Some, codes, length, slice_get}
use Rattle.model_history.specs.Each.{each_below}
use Rattle.run_changes.specs.rows.PlayRows.{level_word}
use Rattle.model_line.specs.declared.line.Line.{Line}
use Rattle.file_records.specs.map.Recorders.{RecorderValues}
use Rattle.file_tables.specs.script.Printed.{records_text}
use Rattle.file_records.specs.tracks.Tracks.{PlacedValues, TrackValues}
use Rattle.file_records.specs.tracks.Fields.{channel_text, config_name, course_fields, sampled_fields}
use Rattle.file_records.specs.tracks.Fields.{signal_fields}

abbrev pub header_record : List (List ℕ)
header_record =
    codes "recorder" ∷ codes "terminal" ∷ codes "signal" ∷ codes "from" ∷ codes "channel"
    ∷ codes "inverted" ∷ codes "first_level" ∷ codes "changes" ∷ codes "first_change_tick"
    ∷ codes "first_change_ms" ∷ codes "first_sample_ms" ∷ codes "last_sample_ms" ∷ codes "unseen" ∷ []

-- a source: its recorder, the signal that it tells, its channel, what it tells at the ticks, and its
-- samples
abbrev pub source_record : Line → List RecorderValues → PlacedValues → TrackValues → List (List ℕ)
source_record line recorders p track =
    config_name (slice_get recorders p.recorder) ∷ []
    ++ signal_fields line p.source.signal
    ++ (channel_text p.source.channel ∷ level_word p.source.inverted ∷ [])
    ++ (course_fields line track ++ sampled_fields line track)

-- the source at a place, and its track
abbrev pub record_of : Line → List RecorderValues → Option PlacedValues → Option TrackValues
    → List (List (List ℕ))
record_of line recorders None track = []
record_of line recorders (Some p) None = []
record_of line recorders (Some p) (Some track) = source_record line recorders p track ∷ []

abbrev pub record_at : Line → List RecorderValues → List PlacedValues → List TrackValues → ℕ
    → List (List (List ℕ))
record_at line recorders placed tracks i =
    record_of line recorders (slice_get placed i) (slice_get tracks i)

-- the header, and a record for each source, in the order of the map
abbrev pub sources_rows : Line → List RecorderValues → List PlacedValues → List TrackValues
    → List (List (List ℕ))
sources_rows line recorders placed tracks =
    header_record ∷ each_below (length placed) (record_at line recorders placed tracks)

-- their text
abbrev pub sources_text : Line → List RecorderValues → List PlacedValues → List TrackValues → List ℕ
sources_text line recorders placed tracks =
    records_text (sources_rows line recorders placed tracks)
