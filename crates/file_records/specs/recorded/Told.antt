-- What the tracks of a map tell, where each of its sources names a signal's own channel of a play.
use Rattle.std.specs.Prelude.{◌≡◌, ◌<◌, ℕ, List, false, IsTrue}
use Rattle.std.specs.List.{All, Any, Contains}
use Rattle.model_line.specs.{declared.line.Line.Line, declared.script.Script.Script}
use Rattle.model_line.specs.PlainNames.{is_plain_name}
use Rattle.model_logic.specs.Histories.{History}
use Rattle.file_comtrade.specs.declared.record.RecordFault.{RecordFault}
use Rattle.file_records.specs.{declared.map.source.Signal.Signal, map.Sources.id}
use Rattle.file_records.specs.tracks.Levels.{is_on}
use Rattle.file_records.specs.tracks.Tracks.{AreTracks, FailsAt, PlacedValues, TrackValues, ticks_of}
use Rattle.file_records.specs.recorded.Channels.{id_of, level_of, signals_of}
use Rattle.file_records.specs.recorded.ReadBack.{files_of, start}

-- The source tells a signal of the line by the id of its channel, from the files of a play, at the
-- line's ticks from the first instant of the year 2000 on.
pub record IsOwnSource (line : Line) (script : Script) (h : History) (p : PlacedValues) : Type 0 where
  pub files : p.files ≡ files_of line script h
  pub ticks : p.ticks ≡ ticks_of line start
  pub there : Contains (signals_of line) p.source.signal
  pub channel : p.source.channel ≡ id (id_of line p.source.signal)
  pub plain : p.source.inverted ≡ false

-- then a signal that has a source is on where it is on in the play, at each tick
abbrev pub PlaysAreTold : Type 0
PlaysAreTold =
    (line : Line) (script : Script) (h : History) → IsTrue (is_plain_name script.name)
    → (placed : List PlacedValues) (tracks : List TrackValues)
    → All (IsOwnSource line script h) placed → AreTracks placed tracks
    → (signal : Signal) (t : ℕ) → t < line.horizon → Any (λ p. p.source.signal ≡ signal) placed
    → is_on tracks signal t ≡ level_of script h signal t

-- and none is refused
abbrev pub PlaysAreAccepted : Type 0
PlaysAreAccepted =
    (line : Line) (script : Script) (h : History) → IsTrue (is_plain_name script.name)
    → (placed : List PlacedValues) (i : ℕ) (why : RecordFault)
    → All (IsOwnSource line script h) placed → ¬ FailsAt placed i why
