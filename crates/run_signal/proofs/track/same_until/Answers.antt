use Rattle.std.proofs.Common.{◌≡◌, ◌<◌, Some, length, refl, arith}
use Rattle.std.proofs.lemmas.Option.{slice_get_read}
use Rattle.std.specs.Prelude.{slice_get}
use Rattle.run_signal.proofs.TrackLaws.{stays_once, stays_more}
use Rattle.run_signal.proofs.track.same_until.Goals as goal

pub loop-end-init : goal.loop-end-init
loop-end-init g c = record {
  later = omega arith;
  limited = let inside = c.requires.inside in omega (arith, inside);
  stays = λ lane inside.
      stays_once g.V.Signal.signal c.args.values.now c.args.t lane c.requires.inside;
}

pub loop-end-preserved : goal.loop-end-preserved
loop-end-preserved g c =
    let values = c.args.values.now in
    let end = c.loop-end.end in
    let later : c.args.t < end = c.loop-end.invariant.later in
    let inside : end < length values = omega (arith, c.loop-end-test.true, c.min-last.ensures) in
    let first : slice_get values c.args.t ≡ Some c.index-values-t.result =
    slice_get_read values (length values) c.args.t _ refl c.requires.inside c.index-values-t.is in
    let last : slice_get values end ≡ Some c.index-values-end.result =
    slice_get_read values (length values) end _ refl inside c.index-values-end.is in
    record {
      later = omega (arith, later);
      limited = omega (arith, inside);
      stays = λ lane there.
          stays_more g.V.Signal.signal values c.index-values-t.result
          c.index-values-end.result c.args.t end lane first last
          (c.same.ensures c.if-not-same.false lane there)
          (c.loop-end.invariant.stays lane there);
    }
