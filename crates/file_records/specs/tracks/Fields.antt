-- What the fields of a source say: the signal, the channel that tells it, and how it changes.
use Rattle.std.specs.Prelude.{◌++◌, ◌*◌, ◌/◌, ◌-◌, ◌&&◌, ◌==◌, ℕ, Bool, false, not, List, [], ◌∷◌, Option, None, Some}
use Rattle.std.specs.Prelude.{codes, get_or, length, nat_lt, slice_get, if◌then◌else◌}
use Rattle.std.specs.{Bool.beq, Fmt.decimal}
use Rattle.model_history.specs.Each.{each_below}
use Rattle.run_changes.specs.rows.PlayRows.{level_word}
use Rattle.model_line.specs.declared.line.{Channel.Channel, Line.Line}
use Rattle.model_line.specs.declared.script.What.TheVariants as what
use Rattle.model_line.specs.NamesByNumber.{element_text, terminal_name}
use Rattle.draw_shapes.specs.Numbers.{milliseconds_said}
use Rattle.file_records.specs.declared.map.source.Signal.{Signal}
use Rattle.file_records.specs.declared.map.source.Signal.TheVariants as signal
use Rattle.file_records.specs.map.Recorders.{RecorderValues}
use Rattle.file_records.specs.map.Sources.{ChannelSaid, id, number}
use Rattle.file_records.specs.tracks.Tracks.{TrackValues}

-- ---- the signal

-- of a channel that is lost: the terminal that receives, and the one that sends
abbrev pub loss_fields : Line → Option Channel → List (List ℕ)
loss_fields line None = [] ∷ codes "loss" ∷ [] ∷ []
loss_fields line (Some channel) =
    terminal_name line channel.to ∷ codes "loss" ∷ terminal_name line channel.from ∷ []

-- the terminal, what it saw or did, and for a lost channel the terminal that sends
abbrev pub signal_fields : Line → Signal → List (List ℕ)
signal_fields line (signal.Shown (what.Element place)) =
    terminal_name line place.terminal ∷ element_text place.element ∷ [] ∷ []
signal_fields line (signal.Shown (what.Loss channel)) =
    loss_fields line (slice_get line.channels.items channel)
signal_fields line (signal.Key k) = terminal_name line k ∷ codes "key" ∷ [] ∷ []
signal_fields line (signal.Trip k) = terminal_name line k ∷ codes "trip" ∷ [] ∷ []

-- ---- the channel and its recorder

-- a channel's id, or `#` and its number
abbrev pub channel_text : ChannelSaid → List ℕ
channel_text (id bytes) = bytes
channel_text (number n) = codes "#" ++ decimal n

-- the name of a recorder's configuration, as the map says it
abbrev pub config_name : Option RecorderValues → List ℕ
config_name None = []
config_name (Some r) = r.config

-- ---- how it changes

-- the level that it tells at a tick
abbrev pub level_at : TrackValues → ℕ → Bool
level_at track t = get_or track.levels t false

-- the tick, where its level is not that of the tick before
abbrev pub change_at : TrackValues → ℕ → List ℕ
change_at track t =
    if nat_lt 0 t && not (beq (level_at track (t - 1)) (level_at track t)) then t ∷ [] else []

-- the ticks at which it changes
abbrev pub changes_of : Line → TrackValues → List ℕ
changes_of line track = each_below line.horizon (change_at track)

-- a tick, and the same in milliseconds; empty where there is none
abbrev pub tick_fields : Line → Option ℕ → List (List ℕ)
tick_fields line None = [] ∷ [] ∷ []
tick_fields line (Some t) = decimal t ∷ milliseconds_said (t * line.tick_us) ∷ []

-- the level at tick 0, the number of changes, and the first of them
abbrev pub course_fields : Line → TrackValues → List (List ℕ)
course_fields line track =
    level_word (level_at track 0) ∷ decimal (length (changes_of line track))
    ∷ tick_fields line (slice_get (changes_of line track) 0)

-- ---- its samples

-- so many nanoseconds before tick 0, in milliseconds, to the microsecond
abbrev pub before_text : ℕ → List ℕ
before_text n =
    if n / 1000 == 0 then codes "0" else codes "-" ++ milliseconds_said (n / 1000)

-- The pulses that no tick sees, in a channel that changes so often between samples, and so often
-- between ticks: each hides two changes.
abbrev pub unseen : ℕ → ℕ → ℕ
unseen between_samples between_ticks = (between_samples - between_ticks) / 2

-- when its first sample is taken and when its last, and how many pulses no tick sees
abbrev pub sampled_fields : Line → TrackValues → List (List ℕ)
sampled_fields line track =
    before_text track.sampled.before ∷ milliseconds_said (track.sampled.after / 1000)
    ∷ decimal (unseen track.sampled.changes (length (changes_of line track))) ∷ []
