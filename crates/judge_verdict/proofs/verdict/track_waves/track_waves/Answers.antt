use Rattle.std.proofs.Common.{◌≡◌, Some, length, refl}
use Rattle.std.proofs.lemmas.Option.{slice_get_read}
use Rattle.std.specs.Prelude.{slice_get}
use Rattle.judge_verdict.proofs.verdict_lemmas.TrackLaws.{of_track, one_more}
use Rattle.judge_verdict.proofs.verdict.track_waves.track_waves.Goals as goal

pub loop-track-preserved : goal.loop-track-preserved
loop-track-preserved c =
    let tracks = c.args.tracks.now in
    let i = c.loop-track.track-index in
    let track = c.track-item.result in
    let at : slice_get tracks i ≡ Some track =
    slice_get_read tracks (length tracks) i track refl c.loop-track-test.true c.track-item.is in
    one_more tracks i c.args.horizon c.in_ok-wave.wave c.loop-track.waves.items
    c.push.new.self.items c.in_ok-push.ensures.items
    (of_track tracks i c.args.horizon track c.in_ok-wave.wave at (c.requires.long i track at)
    c.in_ok-wave.ensures) c.loop-track.invariant
