use Rattle.std.proofs.Common.{◌≡◌, ℕ, ◌+◌, ◌-◌, arith, subst, sym}
use Rattle.run_step.specs.Lasts.{Lasts}
use Rattle.run_step.specs.ShownByLaws.{loss_lasts, raw_lasts_of, seen_lasts}
use Rattle.run_changes.proofs.changes.look.rests_until.Goals as goal

pub returns-in-Seen-clause-lasts : goal.returns-in-Seen-clause-lasts
returns-in-Seen-clause-lasts g c = λ lane p inside none shown from sent.
    let t = c.args.moment.now.t in
    let same : c.all_stay.result ≡ t + c.all_stay.result - t = omega arith in
    subst (λ (m : ℕ). Lasts p (t - 1) t m c.args.gate.now) same
    (seen_lasts p (t - 1) t c.all_stay.result c.args.gate.now c.in-Seen.field-0 c.args.spans.now
    c.in-Seen.is shown c.all_stay.ensures.keep)

pub returns-in-Loss-clause-lasts : goal.returns-in-Loss-clause-lasts
returns-in-Loss-clause-lasts g c = λ lane p inside none shown from sent.
    let t = c.args.moment.now.t in
    let same : c.all_stay-in-Loss.result ≡ t + c.all_stay-in-Loss.result - t = omega arith in
    subst (λ (m : ℕ). Lasts p (t - 1) t m c.args.gate.now) same
    (loss_lasts p (t - 1) t c.all_stay-in-Loss.result c.args.gate.now c.in-Loss.field-0
    c.args.spans.now c.in-Loss.is shown c.all_stay-in-Loss.ensures.keep)

pub returns-in-Raw-clause-lasts : goal.returns-in-Raw-clause-lasts
returns-in-Raw-clause-lasts g c = λ lane p inside none shown from sent.
    let t = c.args.moment.now.t in
    raw_lasts_of p (t - 1) t (c.arrives_until.result - t) c.args.gate.now c.in-Raw.channel
    c.in-Raw.is
    (c.arrives_until.ensures.lasts lane p.world p.keys inside from sent)

pub overflow_add-result : goal.overflow_add-result
overflow_add-result g c =
    record {
      fits = omega (
        arith,
        c.all_stay.ensures.limited,
        c.requires.moment.tick,
        c.args.moment.now.line.now.horizon_in_range.1,
      );
    }

pub overflow_add-result-in-Loss : goal.overflow_add-result-in-Loss
overflow_add-result-in-Loss g c =
    record {
      fits = omega (
        arith,
        c.all_stay-in-Loss.ensures.limited,
        c.requires.moment.tick,
        c.args.moment.now.line.now.horizon_in_range.1,
      );
    }

pub returns-in-Seen-clause-later : goal.returns-in-Seen-clause-later
returns-in-Seen-clause-later g c = omega (arith, c.all_stay.ensures.some)

pub returns-in-Seen-clause-limited : goal.returns-in-Seen-clause-limited
returns-in-Seen-clause-limited g c =
    omega (
      arith,
      c.all_stay.ensures.limited,
      c.requires.moment.tick,
      c.args.moment.now.line.now.horizon_in_range.1,
    )

pub returns-in-Loss-clause-later : goal.returns-in-Loss-clause-later
returns-in-Loss-clause-later g c = omega (arith, c.all_stay-in-Loss.ensures.some)

pub returns-in-Loss-clause-limited : goal.returns-in-Loss-clause-limited
returns-in-Loss-clause-limited g c =
    omega (
      arith,
      c.all_stay-in-Loss.ensures.limited,
      c.requires.moment.tick,
      c.args.moment.now.line.now.horizon_in_range.1,
    )

pub arrives_until-requires-clause-moment : goal.arrives_until-requires-clause-moment
arrives_until-requires-clause-moment g c = c.requires.moment

pub arrives_until-requires-clause-set : goal.arrives_until-requires-clause-set
arrives_until-requires-clause-set g c = c.requires.set

pub returns-in-Raw-clause-later : goal.returns-in-Raw-clause-later
returns-in-Raw-clause-later g c = c.arrives_until.ensures.later

pub returns-in-Raw-clause-limited : goal.returns-in-Raw-clause-limited
returns-in-Raw-clause-limited g c = c.arrives_until.ensures.limited

pub returns-in-Const-clause-later : goal.returns-in-Const-clause-later
returns-in-Const-clause-later g c =
    omega (arith, c.requires.moment.tick, c.args.moment.now.line.now.horizon_in_range.1)

pub returns-in-Not-clause-later : goal.returns-in-Not-clause-later
returns-in-Not-clause-later g c =
    omega (arith, c.requires.moment.tick, c.args.moment.now.line.now.horizon_in_range.1)

pub returns-in-And-clause-later : goal.returns-in-And-clause-later
returns-in-And-clause-later g c =
    omega (arith, c.requires.moment.tick, c.args.moment.now.line.now.horizon_in_range.1)

pub returns-in-Or-clause-later : goal.returns-in-Or-clause-later
returns-in-Or-clause-later g c =
    omega (arith, c.requires.moment.tick, c.args.moment.now.line.now.horizon_in_range.1)

pub returns-in-Timer-clause-later : goal.returns-in-Timer-clause-later
returns-in-Timer-clause-later g c =
    omega (arith, c.requires.moment.tick, c.args.moment.now.line.now.horizon_in_range.1)

pub returns-in-Seal-clause-later : goal.returns-in-Seal-clause-later
returns-in-Seal-clause-later g c =
    omega (arith, c.requires.moment.tick, c.args.moment.now.line.now.horizon_in_range.1)

pub returns-in-Const-clause-lasts : goal.returns-in-Const-clause-lasts
returns-in-Const-clause-lasts g c = λ lane p inside none shown from sent.
    subst (Lasts p (c.args.moment.now.t - 1) c.args.moment.now.t (4000 - c.args.moment.now.t))
    (sym c.in-Const.is) tt

pub returns-in-Not-clause-lasts : goal.returns-in-Not-clause-lasts
returns-in-Not-clause-lasts g c = λ lane p inside none shown from sent.
    subst (Lasts p (c.args.moment.now.t - 1) c.args.moment.now.t (4000 - c.args.moment.now.t))
    (sym c.in-Not.is) tt

pub returns-in-And-clause-lasts : goal.returns-in-And-clause-lasts
returns-in-And-clause-lasts g c = λ lane p inside none shown from sent.
    subst (Lasts p (c.args.moment.now.t - 1) c.args.moment.now.t (4000 - c.args.moment.now.t))
    (sym c.in-And.is) tt

pub returns-in-Or-clause-lasts : goal.returns-in-Or-clause-lasts
returns-in-Or-clause-lasts g c = λ lane p inside none shown from sent.
    subst (Lasts p (c.args.moment.now.t - 1) c.args.moment.now.t (4000 - c.args.moment.now.t))
    (sym c.in-Or.is) tt

pub returns-in-Seal-clause-lasts : goal.returns-in-Seal-clause-lasts
returns-in-Seal-clause-lasts g c = λ lane p inside none shown from sent.
    subst (Lasts p (c.args.moment.now.t - 1) c.args.moment.now.t (4000 - c.args.moment.now.t))
    (sym c.in-Seal.is) tt
