-- What the script of records shows: at each tick exactly what is told.
use Rattle.std.specs.Prelude.{◌≡◌, ◌<◌, ℕ, List, length}
use Rattle.model_line.specs.{declared.line.Line.Line, Parameters.terminal_count}
use Rattle.model_line.specs.declared.script.Element.{Element}
use Rattle.model_line.specs.declared.script.What.TheVariants as what
use Rattle.model_line.specs.Seen.{is_lost, is_seen}
use Rattle.file_records.specs.declared.map.source.Signal.TheVariants.{Shown}
use Rattle.file_records.specs.{tracks.Levels.is_on, tracks.Tracks.TrackValues}
use Rattle.file_records.specs.recorded.Spans.{element_at, spans_told}

-- an element is seen at a tick, and a channel is lost, exactly where it is told
pub record ShowsAt (line : Line) (tracks : List TrackValues) (t : ℕ) : Type 0 where
  pub elements : (element : Element) (k : ℕ) → k < terminal_count line
      → is_seen (spans_told line tracks) (record { element = element; terminal = k }) t
      ≡ is_on tracks (Shown (element_at element k)) t
  pub losses : (c : ℕ) → c < length line.channels.items
      → is_lost (spans_told line tracks) c t ≡ is_on tracks (Shown (what.Loss c)) t

abbrev pub ShowsWhatIsTold : Type 0
ShowsWhatIsTold =
    (line : Line) (tracks : List TrackValues) (t : ℕ) → t < line.horizon → ShowsAt line tracks t
