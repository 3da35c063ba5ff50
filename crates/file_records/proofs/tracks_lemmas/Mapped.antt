-- Tests of what is mapped.
use Rattle.std.proofs.Common.{◌≡◌, ℕ, List, map}
use Rattle.std.specs.List.{list_any}
use Rattle.base_records.specs.ListLaws.{list_any-map}
use Rattle.file_records.specs.declared.map.{recorder.Recorder.Recorder, source.Signal.Signal}
use Rattle.file_records.specs.map.Recorders.{RecorderValues, recorder_values}
use Rattle.file_records.specs.{declared.tracks.track.Track.Track, tracks.Tracks.track_values}
use Rattle.file_records.specs.tracks.Levels.{is_on, is_told, same_signal, tells}

pub any_track : (signal : Signal) (t : ℕ) (tracks : List Track)
    → is_on (map track_values tracks) signal t
    ≡ list_any (λ x. tells signal t (track_values x)) tracks
any_track signal t tracks = list_any-map track_values (tells signal t) tracks

pub any_recorder : (signal : Signal) (recorders : List Recorder)
    → is_told (map recorder_values recorders) signal
    ≡ list_any (λ (r : Recorder). list_any (λ s. same_signal s signal) r.signals.told.items) recorders
any_recorder signal recorders =
    list_any-map recorder_values
    (λ (r : RecorderValues). list_any (λ s. same_signal s signal) r.signals.told) recorders
