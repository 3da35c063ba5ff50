use Rattle.std.proofs.Common.{◌≡◌, ℕ, suc, ◌+◌, ◌-◌, ◌<◌, ◌≤◌, Some, subst, arith, get_or, length}
use Rattle.std.proofs.lemmas.Option.{slice_get-get_or}
use Rattle.std.specs.Prelude.{slice_get}
use Rattle.run_step.specs.Lasts.{RawLasts}
use Rattle.run_step.specs.DelayLaws.{raw_lasts, sender_inside}
use Rattle.run_changes.proofs.changes_lemmas.HearLaws.{offset_fits}
use Rattle.run_changes.proofs.changes.arrivals.arrives_until.Goals as goal

pub bounds-moment-channel : goal.bounds-moment-channel
bounds-moment-channel g c =
    omega (arith, c.requires.moment.delays.count, c.requires.exists)

pub offset_bounds-moment-channel : goal.offset_bounds-moment-channel
offset_bounds-moment-channel g c =
    let inside : c.args.channel < length c.args.moment.now.delays.now =
    omega (arith, c.requires.moment.delays.count, c.requires.exists) in
    record { fits = offset_fits _ (length c.args.moment.now.delays.now) _ inside c.type_inv.moment.1.0.0.1.1 }

pub bounds-moment-delay : goal.bounds-moment-delay
bounds-moment-delay g c =
    sender_inside g.V.Signal.signal c.args.moment.now c.args.channel
    c.index-moment-channel.result c.requires.moment c.requires.exists

pub offset_bounds-moment-delay : goal.offset_bounds-moment-delay
offset_bounds-moment-delay g c =
    let inside =
    sender_inside g.V.Signal.signal c.args.moment.now c.args.channel
    c.index-moment-channel.result c.requires.moment c.requires.exists in
    record { fits = offset_fits _ (length c.args.moment.now.sent.now) _ inside c.type_inv.moment.1.1.0.0.1.1 }

pub arrival_stays-stays-requires-clause-later : goal.arrival_stays-stays-requires-clause-later
arrival_stays-stays-requires-clause-later g c = λ lane inside.
    let can = c.requires.moment in
    let delays = c.args.moment.now.delays.now in
    let d = get_or delays c.args.channel c.index-moment-channel.result in
    can.delays.later c.args.channel d
    (slice_get-get_or delays c.args.channel c.index-moment-channel.result
    (omega (arith, can.delays.count, c.requires.exists))) lane inside

pub arrival_stays-stays-requires-clause-known : goal.arrival_stays-stays-requires-clause-known
arrival_stays-stays-requires-clause-known g c =
    let moment = c.args.moment.now in
    let can = c.requires.moment in
    let d = get_or moment.delays.now c.args.channel c.index-moment-channel.result in
    let s = get_or moment.sent.now d.from c.index-moment-delay.result in
    let inside =
    sender_inside g.V.Signal.signal moment c.args.channel
    c.index-moment-channel.result can c.requires.exists in
    let f : slice_get moment.sent.now d.from ≡ Some s =
    slice_get-get_or moment.sent.now d.from c.index-moment-delay.result inside in
    (can.sent.each d.from s f).0

pub arrival_stays-stays-requires-clause-early : goal.arrival_stays-stays-requires-clause-early
arrival_stays-stays-requires-clause-early g c =
    omega (arith, c.requires.moment.tick, c.args.moment.now.line.now.horizon_in_range.1)

pub returns-clause-later : goal.returns-clause-later
returns-clause-later g c =
    let moment = c.args.moment.now in
    let can = c.requires.moment in
    let d = get_or moment.delays.now c.args.channel c.index-moment-channel.result in
    let at : slice_get moment.delays.now c.args.channel ≡ Some d =
    slice_get-get_or moment.delays.now c.args.channel c.index-moment-channel.result
    (omega (arith, can.delays.count, c.requires.exists)) in
    let until : moment.t < d.until = c.requires.set c.args.channel d at in
    let some : 1 ≤ c.arrival_stays-stays.result = c.arrival_stays-stays.ensures.some in
    c.lesser.ensures.least (suc moment.t) (omega (arith, some)) (omega (arith, until))

pub returns-clause-limited : goal.returns-clause-limited
returns-clause-limited g c =
    omega (
      arith,
      c.lesser.ensures.first,
      c.arrival_stays-stays.ensures.limited,
      c.requires.moment.tick,
      c.args.moment.now.line.now.horizon_in_range.1,
    )

pub returns-clause-lasts : goal.returns-clause-lasts
returns-clause-lasts g c = λ lane w keys inside from have.
    let moment = c.args.moment.now in
    let t = moment.t in
    let can = c.requires.moment in
    let d = get_or moment.delays.now c.args.channel c.index-moment-channel.result in
    let s = get_or moment.sent.now d.from c.index-moment-delay.result in
    let at : slice_get moment.delays.now c.args.channel ≡ Some d =
    slice_get-get_or moment.delays.now c.args.channel c.index-moment-channel.result
    (omega (arith, can.delays.count, c.requires.exists)) in
    let there = can.delays.from c.args.channel d at in
    let f : slice_get moment.sent.now d.from ≡ Some s =
    slice_get-get_or moment.sent.now d.from c.index-moment-delay.result
    (omega (arith, there, can.sent.count)) in
    let until : t < d.until = c.requires.set c.args.channel d at in
    let first : c.lesser.result ≤ t + c.arrival_stays-stays.result = c.lesser.ensures.first in
    let second : c.lesser.result ≤ d.until = c.lesser.ensures.second in
    subst (λ (k : ℕ). RawLasts (keys k) (w.delay c.args.channel) (t - 1) t (c.lesser.result - t))
    (from.from c.args.channel d at)
    (raw_lasts (keys d.from) (w.delay c.args.channel) (g.V.Signal.signal.ends d.span lane)
    (t - 1) t d.until
    c.arrival_stays-stays.result (c.lesser.result - t)
    (λ r low high. from.delay c.args.channel d at r low high) until
    (omega (arith, first)) (omega (arith, second, until))
    (can.delays.later c.args.channel d at lane inside)
    (c.arrival_stays-stays.ensures.keeps lane (keys d.from) inside (have d.from s f)))
