-- Tracks: what each source of a map tells, tick by tick.
use Rattle.std.specs.Prelude.{◌≡◌, ◌+◌, ◌*◌, ◌++◌, ℕ, zero, suc, Bool, not, List, [], ◌∷◌, map}
use Rattle.std.specs.Prelude.{if◌then◌else◌}
use Rattle.model_line.specs.declared.line.Line.{Line}
use Rattle.file_comtrade.specs.Record.{Files, files_of}
use Rattle.file_comtrade.specs.declared.record.RecordFault.{RecordFault}
use Rattle.file_comtrade.specs.declared.ticks.Ticks.{Ticks}
use Rattle.file_records.specs.declared.map.source.Signal.{Signal}
use Rattle.file_records.specs.{map.Recorders.RecorderValues, map.Sources.SourceValues, map.Sources.source_values}
use Rattle.file_records.specs.declared.tracks.placed.{Placed.Placed, RecordBytes.RecordBytes}
use Rattle.file_records.specs.declared.tracks.{samples.Sampled.Sampled, track.Track.Track}
use Rattle.file_records.specs.{tracks.Channels.AreLevels, tracks.Channels.IsRefused, tracks.Sampled.IsSampled}

-- ---- sources and where they are read

-- A source of recorder number `recorder`, with the bytes of that recorder's files and the line's ticks
-- in its clock.
pub record PlacedValues : Type 0 where
  pub recorder : ℕ
  pub files : Files
  pub ticks : Ticks
  pub source : SourceValues

abbrev pub placed_values : Placed → PlacedValues
placed_values p = record {
  recorder = p.recorder;
  files = files_of p.files;
  ticks = p.ticks;
  source = source_values p.source.now;
}

-- the bytes of a recorder's configuration and data
pub record BytesValues : Type 0 where
  pub config : List ℕ
  pub samples : List ℕ

abbrev pub bytes_values : RecordBytes → BytesValues
bytes_values b = record { config = b.config.now; samples = b.samples.now }

-- the line's ticks, where tick 0 is at this instant
abbrev pub ticks_of : Line → ℕ → Ticks
ticks_of line start =
    record { start = start; tick = line.tick_us * 1000; count = line.horizon }

abbrev pub placed_at : Line → ℕ → RecorderValues → BytesValues → SourceValues → PlacedValues
placed_at line i r bytes source = record {
  recorder = i;
  files = record { dates = r.dates; config = bytes.config; samples = bytes.samples };
  ticks = ticks_of line r.start;
  source = source;
}

-- the sources of these recorders, of which the first has number i, each recorder with its files
abbrev pub placed_from : Line → ℕ → List RecorderValues → List BytesValues → List PlacedValues
placed_from line i [] files = []
placed_from line i (r ∷ rs) [] = []
placed_from line i (r ∷ rs) (bytes ∷ files) =
    map (placed_at line i r bytes) r.signals.sources ++ placed_from line (i + 1) rs files

-- ---- what they tell

-- the levels of a signal that a source tells, and what its samples are beside that
pub record TrackValues : Type 0 where
  pub signal : Signal
  pub levels : List Bool
  pub sampled : Sampled

abbrev pub track_values : Track → TrackValues
track_values t = record { signal = t.signal; levels = t.levels.items; sampled = t.sampled }

-- the other level of each, where the source is inverted
abbrev pub turned : Bool → List Bool → List Bool
turned inverted levels = if inverted then map not levels else levels

-- the levels of the source's channel at the ticks, or the other ones
pub record IsTrack (p : PlacedValues) (track : TrackValues) : Type 0 where
  pub signal : track.signal ≡ p.source.signal
  pub levels : List Bool
  pub are : AreLevels p.files p.source.channel p.ticks levels
  pub turns : track.levels ≡ turned p.source.inverted levels
  pub sampled : IsSampled p.files p.source.channel p.ticks track.sampled

-- the tracks with that of a source behind them
pub record Grows (p : PlacedValues) (old new : List TrackValues) : Type 0 where
  pub track : TrackValues
  pub is : IsTrack p track
  pub more : new ≡ old ++ track ∷ []

-- a track for each source, in their order
abbrev pub AreTracks : List PlacedValues → List TrackValues → Type 0
AreTracks [] [] = Unit {0}
AreTracks [] (t ∷ ts) = ⊥
AreTracks (p ∷ ps) [] = ⊥
AreTracks (p ∷ ps) (t ∷ ts) = IsTrack p t × AreTracks ps ts

-- the source at this place is the first that has none, and this is why
abbrev pub FailsAt : List PlacedValues → ℕ → RecordFault → Type 0
FailsAt [] i why = ⊥
FailsAt (p ∷ ps) zero why = IsRefused p.files p.source.channel p.ticks why
FailsAt (p ∷ ps) (suc i) why = (t : TrackValues) × IsTrack p t × FailsAt ps i why
