-- The record file that records come to: a head, and the changes of each terminal's key and trip.
use Rattle.std.specs.Prelude.{◌++◌, ℕ, Bool, List, [], ◌∷◌, codes, if◌then◌else◌}
use Rattle.std.specs.{Bool.beq, Fmt.decimal}
use Rattle.model_history.specs.Each.{each_below}
use Rattle.model_line.specs.{declared.line.Line.Line, Parameters.terminal_count}
use Rattle.model_line.specs.NamesByNumber.{terminal_name}
use Rattle.run_changes.specs.rows.PlayRows.{value_before, level_word}
use Rattle.judge_match.specs.matching.Row.{header_record}
use Rattle.file_tables.specs.script.Printed.{records_text}
use Rattle.file_records.specs.declared.map.source.Signal.TheVariants.{Key, Trip}
use Rattle.file_records.specs.{tracks.Levels.is_on, tracks.Tracks.TrackValues}

-- one record where the level differs from that at the tick before, which is off before tick 0
abbrev pub change_at : List ℕ → ℕ → List ℕ → List ℕ → (ℕ → Bool) → List (List (List ℕ))
change_at script t terminal signal on =
    if beq (value_before on t) (on t) then []
    else (script ∷ decimal t ∷ terminal ∷ signal ∷ level_word (on t) ∷ []) ∷ []

-- the changes of a terminal at a tick, the key's before the trip's
abbrev pub terminal_changes : List ℕ → Line → List TrackValues → ℕ → ℕ → List (List (List ℕ))
terminal_changes script line tracks t k =
    change_at script t (terminal_name line k) (codes "key") (is_on tracks (Key k))
    ++ change_at script t (terminal_name line k) (codes "trip") (is_on tracks (Trip k))

-- those of all terminals at a tick, in line order
abbrev pub tick_changes : List ℕ → Line → List TrackValues → ℕ → List (List (List ℕ))
tick_changes script line tracks t =
    each_below (terminal_count line) (terminal_changes script line tracks t)

abbrev pub head_record : List ℕ → List (List ℕ)
head_record script = script ∷ [] ∷ [] ∷ [] ∷ [] ∷ []

-- the header, the head of the script and its changes, tick by tick
abbrev pub record_rows : List ℕ → Line → List TrackValues → List (List (List ℕ))
record_rows script line tracks =
    header_record ∷ head_record script ∷ each_below line.horizon (tick_changes script line tracks)

-- their text
abbrev pub record_text : List ℕ → Line → List TrackValues → List ℕ
record_text script line tracks = records_text (record_rows script line tracks)
