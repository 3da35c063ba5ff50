use Rattle.std.proofs.Common.{◌≡◌, ℕ, suc, ◌+◌, ◌-◌, subst, arith, refl}
use Rattle.run_changes.specs.changes.Lags.{IsNoTimer}
use Rattle.run_step.specs.Lasts.{Lasts}
use Rattle.run_step.specs.GivenLaws.{delays_now}
use Rattle.run_changes.proofs.changes_lemmas.LagLaws.{lags_now, no_timer_stands, no_timer_lags, timer_lasts}
use Rattle.run_changes.proofs.changes.look.look.Goals as goal

pub returns-clause-stands : goal.returns-clause-stands
returns-clause-stands g c = λ lane p inside agree lags.
    let t = c.args.moment.now.t in
    let next : t + 1 ≡ suc t = omega arith in
    lags_now g.V.Signal.signal g.V.Timed.stands_for lane p.world p.pairs t
    c.args.gate.now c.answer.new.cell (record { fed = t + 1; input = c.input_of.result }) next
    (c.input_of.ensures lane p.pairs t inside agree)
    (c.answer.ensures.stands lane p.world p.pairs inside agree
    (c.catch_up.ensures.stands lane p.world p.pairs inside lags))

pub returns-clause-answers : goal.returns-clause-answers
returns-clause-answers g c = λ lane p inside shown from sent agree lags.
    let moment = c.args.moment.now in
    c.answer.ensures.answers lane p.world p.keys p.pairs inside (shown moment.t)
    (delays_now g.V.Signal.signal.ends lane moment.delays.now p.world moment.t c.requires.set from)
    sent agree
    (c.catch_up.ensures.stands lane p.world p.pairs inside lags)

pub returns-clause-lasts : goal.returns-clause-lasts
returns-clause-lasts g c = λ p all lane inside.
    let t = c.args.moment.now.t in
    let n = c.gate_stays-stays.result in
    let same : n ≡ t + n - t = omega arith in
    subst (λ (m : ℕ). Lasts (p lane) (t - 1) t m c.args.gate.now) same
    (timer_lasts (p lane) (t - 1) t n c.args.gate.now (c.if-is_no_timer.ensures.one refl)
    (c.gate_stays-stays.ensures.keeps (λ l. (p l).world) (λ l. (p l).pairs) t
    (λ l il. (all l il).3)
    (λ l il. c.catch_up.ensures.stands l (p l).world (p l).pairs il (all l il).4) lane inside))

pub returns-then-is_no_timer-clause-stands : goal.returns-then-is_no_timer-clause-stands
returns-then-is_no_timer-clause-stands g c = λ lane p inside agree lags.
    let t = c.args.moment.now.t in
    let none : IsNoTimer c.args.gate.now = c.if-is_no_timer.ensures.none refl in
    no_timer_lags g.V.Signal.signal g.V.Timed.stands_for lane p.world p.pairs (suc t)
    c.args.gate.now c.short_answer-value.new.cell c.args.since.now none
    (c.short_answer-value.ensures.stands lane p.world p.pairs inside agree
    (no_timer_stands g.V.Signal.signal g.V.Timed.stands_for lane p.world p.pairs t
    c.args.gate.now c.args.cell.now c.args.since.now none lags))

pub returns-then-is_no_timer-clause-answers : goal.returns-then-is_no_timer-clause-answers
returns-then-is_no_timer-clause-answers g c = λ lane p inside shown from sent agree lags.
    let moment = c.args.moment.now in
    let none : IsNoTimer c.args.gate.now = c.if-is_no_timer.ensures.none refl in
    c.short_answer-value.ensures.answers lane p.world p.keys p.pairs inside (shown moment.t)
    (delays_now g.V.Signal.signal.ends lane moment.delays.now p.world moment.t c.requires.set from)
    sent agree
    (no_timer_stands g.V.Signal.signal g.V.Timed.stands_for lane p.world p.pairs
    moment.t c.args.gate.now c.args.cell.now c.args.since.now none lags)

pub returns-then-is_no_timer-clause-lasts : goal.returns-then-is_no_timer-clause-lasts
returns-then-is_no_timer-clause-lasts g c = λ p all lane inside.
    let none : IsNoTimer c.args.gate.now = c.if-is_no_timer.ensures.none refl in
    let q = all lane inside in
    c.rests_until-until.ensures.lasts lane (p lane) inside none q.0 q.1 q.2

pub rests_until-until-requires-clause-names : goal.rests_until-until-requires-clause-names
rests_until-until-requires-clause-names g c = c.requires.names

pub rests_until-until-requires-clause-moment : goal.rests_until-until-requires-clause-moment
rests_until-until-requires-clause-moment g c = c.requires.moment

pub rests_until-until-requires-clause-set : goal.rests_until-until-requires-clause-set
rests_until-until-requires-clause-set g c = c.requires.set

pub short_answer-value-requires-clause-names : goal.short_answer-value-requires-clause-names
short_answer-value-requires-clause-names g c = c.requires.names

pub short_answer-value-requires-clause-arguments : goal.short_answer-value-requires-clause-arguments
short_answer-value-requires-clause-arguments g c = c.requires.arguments

pub short_answer-value-requires-clause-cell : goal.short_answer-value-requires-clause-cell
short_answer-value-requires-clause-cell g c = c.requires.cell

pub short_answer-value-requires-clause-moment : goal.short_answer-value-requires-clause-moment
short_answer-value-requires-clause-moment g c = c.requires.moment

pub returns-then-is_no_timer-clause-shape : goal.returns-then-is_no_timer-clause-shape
returns-then-is_no_timer-clause-shape g c = c.short_answer-value.ensures.shape

pub returns-then-is_no_timer-clause-later : goal.returns-then-is_no_timer-clause-later
returns-then-is_no_timer-clause-later g c = c.rests_until-until.ensures.later

pub catch_up-requires-clause-early : goal.catch_up-requires-clause-early
catch_up-requires-clause-early g c =
    omega (arith, c.requires.moment.tick, c.args.moment.now.line.now.horizon_in_range.1)

pub catch_up-requires-clause-cell : goal.catch_up-requires-clause-cell
catch_up-requires-clause-cell g c = c.requires.cell

pub overflow_sub-t : goal.overflow_sub-t
overflow_sub-t g c =
    omega (arith, c.requires.moment.tick, c.args.moment.now.line.now.horizon_in_range.1)

pub gate_stays-stays-requires-clause-arguments : goal.gate_stays-stays-requires-clause-arguments
gate_stays-stays-requires-clause-arguments g c = c.requires.arguments

pub gate_stays-stays-requires-clause-cell : goal.gate_stays-stays-requires-clause-cell
gate_stays-stays-requires-clause-cell g c = c.catch_up.ensures.shape

pub gate_stays-stays-requires-clause-limit : goal.gate_stays-stays-requires-clause-limit
gate_stays-stays-requires-clause-limit g c =
    omega (arith, c.requires.moment.tick, c.args.moment.now.line.now.horizon_in_range.1)

pub overflow_add-due : goal.overflow_add-due
overflow_add-due g c =
    record {
      fits = omega (
        arith,
        c.gate_stays-stays.ensures.limited,
        c.requires.moment.tick,
        c.args.moment.now.line.now.horizon_in_range.1,
      );
    }

pub overflow_add-since : goal.overflow_add-since
overflow_add-since g c =
    record {
      fits = omega (arith, c.requires.moment.tick, c.args.moment.now.line.now.horizon_in_range.1);
    }

pub input_of-requires : goal.input_of-requires
input_of-requires g c = c.requires.arguments

pub answer-requires-clause-names : goal.answer-requires-clause-names
answer-requires-clause-names g c = c.requires.names

pub answer-requires-clause-arguments : goal.answer-requires-clause-arguments
answer-requires-clause-arguments g c = c.requires.arguments

pub answer-requires-clause-moment : goal.answer-requires-clause-moment
answer-requires-clause-moment g c = c.requires.moment

pub answer-requires-clause-cell : goal.answer-requires-clause-cell
answer-requires-clause-cell g c = c.catch_up.ensures.shape

pub returns-clause-shape : goal.returns-clause-shape
returns-clause-shape g c = c.answer.ensures.shape

pub returns-clause-later : goal.returns-clause-later
returns-clause-later g c = omega (arith, c.gate_stays-stays.ensures.some)
