use Rattle.std.proofs.Common.{◌≡◌, ℕ, Some, length, ap, arith, subst, sym}
use Rattle.std.proofs.lemmas.Option.{slice_get_read}
use Rattle.std.specs.Prelude.{◌↔◌, IsTrue, slice_get}
use Rattle.model_line.specs.Parameters.{terminal_count}
use Rattle.model_history.specs.Rails.{rails_at}
use Rattle.run_signal.specs.{Lanes.in_lane, Levels.level_rails}
use Rattle.run_changes.specs.changes.Agreeing.{AllAgreeIn, own_pairs}
use Rattle.run_changes.specs.changes.Tracks.{pair_of}
use Rattle.run_changes.proofs.changes_lemmas.AgreeLaws.{no_track, tracks_more}
use Rattle.run_changes.proofs.changes.agreeing.agreeing_tracks.Goals as goal

pub loop-k-init : goal.loop-k-init
loop-k-init g c = λ lane inside.
    no_track (own_pairs g.V.Signal.signal.rails lane c.args.tracks.now) c.args.recorded.now c.args.from
    c.args.end (g.V.Signal.signal.rails c.known-lanes.result lane) (c.known-lanes.ensures lane inside)

pub agreeing_track-requires-clause-track : goal.agreeing_track-requires-clause-track
agreeing_track-requires-clause-track g c =
    let n = c.loop-k.k in
    let x = c.index-tracks-k.result in
    let count : length c.args.tracks.now ≡ terminal_count c.args.line.now =
    c.requires.tracks.count in
    let at : slice_get c.args.tracks.now n ≡ Some x =
    slice_get_read c.args.tracks.now (terminal_count c.args.line.now) n x (sym count) (omega arith)
    c.index-tracks-k.is in
    omega (arith, (c.requires.tracks.each n x at).0)

pub agreeing_track-requires-clause-recorded : goal.agreeing_track-requires-clause-recorded
agreeing_track-requires-clause-recorded g c =
    let n = c.loop-k.k in
    let y = c.index-recorded-k.result in
    let count : length c.args.tracks.now ≡ terminal_count c.args.line.now =
    c.requires.tracks.count in
    let at : slice_get c.args.recorded.now n ≡ Some y =
    slice_get_read c.args.recorded.now (terminal_count c.args.line.now) n y
    (sym c.requires.recorded.count) (omega arith) c.index-recorded-k.is in
    omega (arith, (c.requires.recorded.each n y at).0, c.requires.end)

pub loop-k-preserved : goal.loop-k-preserved
loop-k-preserved g c = λ lane inside.
    let n = c.loop-k.k in
    let rails = g.V.Signal.signal.rails in
    let tracks = c.args.tracks.now in
    let recorded = c.args.recorded.now in
    let x = c.index-tracks-k.result in
    let y = c.index-recorded-k.result in
    let count : length tracks ≡ terminal_count c.args.line.now = c.requires.tracks.count in
    let at : slice_get tracks n ≡ Some x =
    slice_get_read tracks (terminal_count c.args.line.now) n x (sym count) (omega arith)
    c.index-tracks-k.is in
    let there : slice_get recorded n ≡ Some y =
    slice_get_read recorded (terminal_count c.args.line.now) n y (sym c.requires.recorded.count)
    (omega arith) c.index-recorded-k.is in
    tracks_more (own_pairs rails lane tracks) recorded c.args.from c.args.end n
    (rails c.loop-k.lanes lane) (rails c.agreeing_track.result lane) (rails c.and-lanes.result lane)
    (rails_at (in_lane rails lane x.keys))
    (rails_at (in_lane (λ x _. level_rails x) 0 y.keys)) (c.and-lanes.ensures lane inside)
    (λ r. ap (pair_of rails lane r) at) (λ r. ap (pair_of (λ x _. level_rails x) 0 r) there)
    (c.loop-k.invariant lane inside) (c.agreeing_track.ensures lane inside)

pub offset_bounds-tracks-k : goal.offset_bounds-tracks-k
offset_bounds-tracks-k g c = c.loop-k.auto.k-end

pub offset_bounds-recorded-k : goal.offset_bounds-recorded-k
offset_bounds-recorded-k g c =
    record {
      fits = omega (
        arith,
        c.loop-k-test.true,
        c.requires.tracks.count,
        c.args.line.now.two_or_three.1,
      );
    }

pub bounds-recorded-k : goal.bounds-recorded-k
bounds-recorded-k g c =
    omega (arith, c.loop-k-test.true, c.requires.tracks.count, c.requires.recorded.count)

pub agreeing_track-requires-clause-from : goal.agreeing_track-requires-clause-from
agreeing_track-requires-clause-from g c = c.requires.from

pub returns : goal.returns
returns g c = λ lane inside.
    let rails = g.V.Signal.signal.rails in
    let under = c.loop-k.auto.k-end in
    let all : c.loop-k.k ≡ terminal_count c.args.line.now =
    omega (arith, c.loop-k-test.false, under, c.requires.tracks.count) in
    subst (λ (n : ℕ). IsTrue (rails c.loop-k.lanes lane).must
    ↔ AllAgreeIn n (own_pairs rails lane c.args.tracks.now) c.args.recorded.now c.args.from c.args.end)
    all (c.loop-k.invariant lane inside)
