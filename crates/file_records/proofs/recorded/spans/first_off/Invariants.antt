use Rattle.std.proofs.Common.{◌≡◌, ◌-◌, map}
use Rattle.file_records.specs.{tracks.Levels.is_on, tracks.Tracks.track_values}
use Rattle.file_records.specs.recorded.Spans.{first_off}
use Rattle.file_records.proofs.recorded.spans.first_off.Given as goal

abbrev pub invariant-loop-u : goal.invariant-loop-u
invariant-loop-u l =
    first_off (is_on (map track_values l.tracks) l.signal) l.t (l.horizon - l.t)
    ≡ first_off (is_on (map track_values l.tracks) l.signal) l.u (l.horizon - l.u)
