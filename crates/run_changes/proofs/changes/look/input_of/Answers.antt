use Rattle.std.proofs.Common.{◌<◌, length, arith, refl, subst, sym}
use Rattle.std.proofs.lemmas.Option.{slice_get_read}
use Rattle.net_gates.specs.Gates.{HasArguments}
use Rattle.run_changes.specs.changes.Lags.{IsInputAt}
use Rattle.run_changes.proofs.changes.look.input_of.Goals as goal

pub bounds-earlier-x : goal.bounds-earlier-x
bounds-earlier-x g c = subst (HasArguments (length c.args.earlier.now)) c.in-Timer.is c.requires

pub offset_bounds-earlier-x : goal.offset_bounds-earlier-x
offset_bounds-earlier-x g c =
    let inside : c.in-Timer.x.0 < length c.args.earlier.now =
    subst (HasArguments (length c.args.earlier.now)) c.in-Timer.is c.requires in
    omega (arith, inside)

pub returns-in-Timer : goal.returns-in-Timer
returns-in-Timer g c = λ lane u t there agree.
    let inside : c.in-Timer.x.0 < length c.args.earlier.now =
    subst (HasArguments (length c.args.earlier.now)) c.in-Timer.is c.requires in
    let earlier = c.args.earlier.now in
    let x = c.index-earlier-x.result in
    subst (λ k. IsInputAt g.V.Signal.signal.rails lane u t k x) (sym c.in-Timer.is)
    (sym (agree c.in-Timer.x.0 x
    (slice_get_read earlier (length earlier) c.in-Timer.x.0 x refl inside c.index-earlier-x.is)))
