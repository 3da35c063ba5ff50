use Rattle.std.proofs.Common.{◌≡◌, ◌<◌, ℕ, Bool, true, false, sym, ◌∙◌, ap, arith, below_more}
use Rattle.draw_run.proofs.diagram.times.first_trip.Goals as goal

pub returns-then-is : goal.returns-then-is
returns-then-is g c = λ rail tells.
    let u : ℕ → Bool = λ t. rail ((g.H.Shown.pairs c.args.shown.now).trip c.args.k t) in
    let early : c.loop-t.t < c.args.horizon = omega (arith, c.loop-t-test.true) in
    let on : u c.loop-t.t ≡ true =
    ap rail (sym c.trip_at.ensures) ∙ sym (tells _ _ c.is.ensures) ∙ c.if-is.true in
    sym ((c.the_first_tick_is_the_least.ensures.some u c.args.horizon c.loop-t.t).1
    (early, on, c.loop-t.invariant rail tells))

pub loop-t-preserved : goal.loop-t-preserved
loop-t-preserved g c = λ rail tells.
    below_more (λ t. rail ((g.H.Shown.pairs c.args.shown.now).trip c.args.k t) ≡ false) c.loop-t.t
    (c.loop-t.invariant rail tells)
    (ap rail (sym c.trip_at.ensures) ∙ sym (tells _ _ c.is.ensures) ∙ c.if-is.false)

pub returns : goal.returns
returns g c = λ rail tells.
    let u : ℕ → Bool = λ t. rail ((g.H.Shown.pairs c.args.shown.now).trip c.args.k t) in
    sym ((c.the_first_tick_is_the_least.ensures.none u c.args.horizon).1
    (λ t early. c.loop-t.invariant rail tells t (omega (arith, early, c.loop-t-test.false))))
