-- What the record of a play comes to under a map: a script that shows what the play's script shows, and
-- the changes of the play's keys and trips.
use Rattle.std.specs.Prelude.{◌≡◌, ◌<◌, ◌++◌, ℕ, List, ◌∷◌, codes, length, IsTrue}
use Rattle.std.specs.List.{All, Any}
use Rattle.model_history.specs.Each.{each_below}
use Rattle.model_line.specs.{declared.line.Line.Line, declared.script.Script.Script}
use Rattle.model_line.specs.{Parameters.terminal_count, PlainNames.is_plain_name}
use Rattle.model_line.specs.declared.script.Element.{Element}
use Rattle.model_line.specs.declared.script.What.TheVariants as what
use Rattle.model_line.specs.Seen.{is_lost, is_seen}
use Rattle.model_logic.specs.Histories.{History}
use Rattle.model_line.specs.NamesByNumber.{terminal_name}
use Rattle.judge_match.specs.matching.Row.{header_record}
use Rattle.file_records.specs.{declared.map.source.Signal.Signal, map.Signals.shown}
use Rattle.file_records.specs.declared.map.source.Signal.TheVariants.{Shown, Key, Trip}
use Rattle.file_records.specs.{tracks.Tracks.AreTracks, tracks.Tracks.PlacedValues, tracks.Tracks.TrackValues}
use Rattle.file_records.specs.{recorded.Changes.change_at, recorded.Changes.head_record, recorded.Changes.record_rows}
use Rattle.file_records.specs.recorded.Spans.{spans_told}
use Rattle.file_records.specs.recorded.Told.{IsOwnSource}

abbrev pub HasSource : List PlacedValues → Signal → Type 0
HasSource placed signal = Any (λ p. p.source.signal ≡ signal) placed

-- each source tells its own signal from the files of a play, and each signal of the line has one
pub record AreOwnSources (line : Line) (script : Script) (h : History) (placed : List PlacedValues)
    : Type 0 where
  pub own : All (IsOwnSource line script h) placed
  pub elements : (element : Element) (k : ℕ) → k < terminal_count line
      → HasSource placed (shown element k)
  pub losses : (c : ℕ) → c < length line.channels.items → HasSource placed (Shown (what.Loss c))
  pub keys : (k : ℕ) → k < terminal_count line → HasSource placed (Key k)
  pub trips : (k : ℕ) → k < terminal_count line → HasSource placed (Trip k)

-- ---- the script

-- the script that is made of the tracks shows at a tick what the play's script shows
pub record ShowsThePlay (line : Line) (script : Script) (tracks : List TrackValues) (t : ℕ)
    : Type 0 where
  pub elements : (element : Element) (k : ℕ) → k < terminal_count line
      → is_seen (spans_told line tracks) (record { element = element; terminal = k }) t
      ≡ is_seen script.spans.items (record { element = element; terminal = k }) t
  pub losses : (c : ℕ) → c < length line.channels.items
      → is_lost (spans_told line tracks) c t ≡ is_lost script.spans.items c t

abbrev pub ScriptsShowPlays : Type 0
ScriptsShowPlays =
    (line : Line) (script : Script) (h : History) → IsTrue (is_plain_name script.name)
    → (placed : List PlacedValues) (tracks : List TrackValues)
    → AreOwnSources line script h placed → AreTracks placed tracks → (t : ℕ) → t < line.horizon
    → ShowsThePlay line script tracks t

-- ---- keys and trips

-- the changes of a terminal's key and trip in a history at a tick
abbrev pub history_changes : List ℕ → Line → History → ℕ → ℕ → List (List (List ℕ))
history_changes name line h t k =
    change_at name t (terminal_name line k) (codes "key") (h.key k)
    ++ change_at name t (terminal_name line k) (codes "trip") (h.trip k)

-- the records of a history, under a head
abbrev pub history_rows : List ℕ → Line → History → List (List (List ℕ))
history_rows name line h =
    header_record ∷ head_record name
    ∷ each_below line.horizon (λ t. each_below (terminal_count line) (history_changes name line h t))

-- the record that is made of the tracks is that of the play's keys and trips
abbrev pub RecordsArePlays : Type 0
RecordsArePlays =
    (line : Line) (script : Script) (h : History) → IsTrue (is_plain_name script.name)
    → (placed : List PlacedValues) (tracks : List TrackValues)
    → AreOwnSources line script h placed → AreTracks placed tracks → (name : List ℕ)
    → record_rows name line tracks ≡ history_rows name line h
