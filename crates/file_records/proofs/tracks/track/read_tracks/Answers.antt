use Rattle.std.proofs.Common.{◌+◌, List, map, subst, sym, take}
use Rattle.file_records.specs.declared.tracks.placed.Placed.{Placed}
use Rattle.file_records.specs.tracks.Channels.{IsRefused}
use Rattle.file_records.specs.tracks.Tracks.{placed_values, track_values, AreTracks, IsTrack, TrackValues}
use Rattle.file_records.proofs.tracks_lemmas.Loops.{read_fails, read_more}
use Rattle.file_records.proofs.tracks.track.read_tracks.Goals as goal

pub returns-in-Err-Fault : goal.returns-in-Err-Fault
returns-in-Err-Fault c =
    let R : Placed → Type 0 = λ p. IsRefused (placed_values p).files
    (placed_values p).source.channel (placed_values p).ticks c.in-Err-Fault.why in
    rw c.in-Err-Fault.field-0-is
    (read_fails c.args.placed.now c.loop-i.i c.index-placed-i.result
    (map track_values c.loop-i.tracks.items) c.loop-i-test.true c.loop-i.invariant c.in-Err-Fault.why
    (subst R c.index-placed-i.is (rw c.in-Err-Fault.field-0-is at c.in-Err-Fault.ensures)))

pub loop-i-preserved : goal.loop-i-preserved
loop-i-preserved c =
    let grown = c.in-Ok.ensures in
    let P : List TrackValues → Type 0 = λ ts.
    AreTracks (map placed_values (take (c.loop-i.i + 1) c.args.placed.now)) ts in
    let G : Placed → Type 0 = λ p. IsTrack (placed_values p) grown.track in
    subst P (sym grown.more)
    (read_more c.args.placed.now c.loop-i.i c.index-placed-i.result
    (map track_values c.loop-i.tracks.items) c.loop-i-test.true c.loop-i.invariant grown.track
    (subst G c.index-placed-i.is grown.is))
