use Rattle.std.proofs.Common.{◌≡◌, ◌+◌, ◌*◌, ◌<◌, Some, length, refl, sym, subst}
use Rattle.std.proofs.lemmas.Option.{slice_get_read}
use Rattle.std.specs.Prelude.{slice_get}
use Rattle.run_ticks.specs.cases.UnderWaves.{UnderWavesOf, value_at}
use Rattle.run_ticks.proofs.RoomLaws.{place_there}
use Rattle.run_ticks.proofs.cases.waves.UnderWaves.own.Goals as goal

pub returns : goal.returns
returns g c =
    let t = c.args.t in
    let gate = c.args.gate.0 in
    let xs = c.self.inside.owns.items in
    let x = c.index.result.now in
    let there : t * c.self.inside.width + gate < length xs =
    place_there c.self.inside.width c.self.inside.horizon gate t (length xs)
    (subst (λ (w : UnderWavesOf g.row.V.Denot). gate < w.width) (sym c.self.view_is) c.requires.gate)
    (subst (λ (w : UnderWavesOf g.row.V.Denot). t < w.horizon) (sym c.self.view_is) c.requires.tick)
    c.self.invariant.owns in
    subst (λ (w : UnderWavesOf g.row.V.Denot). slice_get w.owns (value_at w.width gate t) ≡ Some x)
    c.self.view_is
    (slice_get_read xs (length xs) (t * c.self.inside.width + gate) x refl there c.index.ensures)
