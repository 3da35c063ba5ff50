-- The level of a signal at a tick.
use Rattle.std.specs.Prelude.{◌&&◌, ℕ, Bool, false, List, get_or}
use Rattle.std.specs.List.{list_any}
use Rattle.file_records.specs.map.Recorders.{RecorderValues}
use Rattle.file_records.specs.declared.map.source.Signal.{Signal}
use Rattle.file_records.specs.contracts.map.source.SignalPartialEq.TheImpl.{eq-value as signal_eq}
use Rattle.file_records.specs.tracks.Tracks.{TrackValues}

-- two signals are compared as `==` compares them
abbrev pub same_signal : Signal → Signal → Bool
same_signal a b = signal_eq.it a b

-- the track is of the signal, and on at the tick
abbrev pub tells : Signal → ℕ → TrackValues → Bool
tells signal t track = same_signal track.signal signal && get_or track.levels t false

-- a signal is on where one of its tracks is
abbrev pub is_on : List TrackValues → Signal → ℕ → Bool
is_on tracks signal t = list_any (tells signal t) tracks

-- some recorder tells the signal
abbrev pub is_told : List RecorderValues → Signal → Bool
is_told recorders signal =
    list_any (λ r. list_any (λ s. same_signal s signal) r.signals.told) recorders
