use Rattle.std.proofs.Common.{map, take}
use Rattle.file_records.specs.tracks.Tracks.{placed_values, track_values, AreTracks}
use Rattle.file_records.proofs.tracks.track.read_tracks.Given as goal

abbrev pub invariant-loop-i : goal.invariant-loop-i
invariant-loop-i l =
    AreTracks (map placed_values (take l.i l.placed)) (map track_values l.tracks.items)
