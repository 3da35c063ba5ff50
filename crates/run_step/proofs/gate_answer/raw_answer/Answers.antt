use Rattle.std.proofs.Common.{◌≡◌, ◌<◌, ℕ, Some, refl, sym, subst, rules, ◌∙◌, ap, length, get_or}
use Rattle.std.proofs.Math.Nat.{lt_of_lt_of_le}
use Rattle.std.proofs.lemmas.Option.{slice_get-get_or}
use Rattle.std.specs.Prelude.{slice_get}
use Rattle.model_history.specs.Rails.{rails_delayed}
use Rattle.run_signal.specs.Lanes.{in_lane}
use Rattle.run_step.specs.DelayLaws.{sender_inside}
use Rattle.run_step.specs.SendLaws.{received-is}
use Rattle.run_step.proofs.gate_answer.raw_answer.Goals as goal

pub bounds-moment-channel : goal.bounds-moment-channel
bounds-moment-channel g c =
    subst (λ (n : ℕ). c.args.channel < n) (sym c.requires.moment.delays.count) c.requires.exists

pub offset_bounds-moment-channel : goal.offset_bounds-moment-channel
offset_bounds-moment-channel g c =
    let inside : c.args.channel < length c.args.moment.now.delays.now =
    subst (λ (n : ℕ). c.args.channel < n) (sym c.requires.moment.delays.count) c.requires.exists in
    search (rules, inside)

pub bounds-moment-delay : goal.bounds-moment-delay
bounds-moment-delay g c =
    sender_inside g.V.Signal.signal c.args.moment.now c.args.channel
    c.index-moment-channel.result c.requires.moment c.requires.exists

pub offset_bounds-moment-delay : goal.offset_bounds-moment-delay
offset_bounds-moment-delay g c =
    let moment = c.args.moment.now in
    let e = c.index-moment-channel.result in
    let inside : (get_or moment.delays.now c.args.channel e).from < length moment.sent.now =
    sender_inside g.V.Signal.signal moment c.args.channel e c.requires.moment c.requires.exists in
    search (rules, inside)

pub received-requires-clause-later : goal.received-requires-clause-later
received-requires-clause-later g c = λ lane inside.
    let delays = c.args.moment.now.delays in
    let can = c.requires.moment.delays in
    let e = c.index-moment-channel.result in
    let d = get_or delays.now c.args.channel e in
    let at : slice_get delays.now c.args.channel ≡ Some d =
    slice_get-get_or delays.now c.args.channel e
    (subst (λ (n : ℕ). c.args.channel < n) (sym can.count) c.requires.exists) in
    can.later c.args.channel d at lane inside

pub received-requires-clause-room : goal.received-requires-clause-room
received-requires-clause-room g c =
    let moment = c.args.moment.now in
    let can = c.requires.moment in
    let d = get_or moment.delays.now c.args.channel c.index-moment-channel.result in
    let s = get_or moment.sent.now d.from c.index-moment-delay.result in
    let inside =
    sender_inside g.V.Signal.signal moment c.args.channel
    c.index-moment-channel.result can c.requires.exists in
    let f : slice_get moment.sent.now d.from ≡ Some s =
    slice_get-get_or moment.sent.now d.from c.index-moment-delay.result inside in
    subst (λ (n : ℕ). n < 4000) (sym (can.sent.each d.from s f).0)
    (lt_of_lt_of_le can.tick moment.line.now.horizon_in_range.1)

pub returns : goal.returns
returns g c = λ lane w keys inside of have.
    let moment = c.args.moment.now in
    let t = moment.t in
    let can = c.requires.moment in
    let d = get_or moment.delays.now c.args.channel c.index-moment-channel.result in
    let s = get_or moment.sent.now d.from c.index-moment-delay.result in
    let at : slice_get moment.delays.now c.args.channel ≡ Some d =
    slice_get-get_or moment.delays.now c.args.channel c.index-moment-channel.result
    (subst (λ (n : ℕ). c.args.channel < n) (sym can.delays.count) c.requires.exists) in
    let there = can.delays.from c.args.channel d at in
    let f : slice_get moment.sent.now d.from ≡ Some s =
    slice_get-get_or moment.sent.now d.from c.index-moment-delay.result
    (subst (λ (n : ℕ). d.from < n) (sym can.sent.count) there) in
    let delay = of.delay c.args.channel d at in
    c.received.ensures lane inside
    ∙ received-is c.history_laws.ensures (in_lane g.V.Signal.signal.rails lane s.keys) (keys d.from)
    t
    (length s.keys) (g.V.Signal.signal.ends d.span lane) (g.V.Signal.signal.ends d.span lane)
    (have d.from s f) (can.sent.each d.from s f).0 refl
    (can.delays.later c.args.channel d at lane inside)
    ∙ ap (λ (k : ℕ). rails_delayed (keys k) (g.V.Signal.signal.ends d.span lane) t)
    (of.from c.args.channel d at)
    ∙ ap (λ e. rails_delayed (keys (w.from c.args.channel)) e t) delay
