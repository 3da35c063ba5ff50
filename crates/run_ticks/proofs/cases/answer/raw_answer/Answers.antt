use Rattle.std.proofs.Common.{◌≡◌, ◌<◌, ℕ, Some, refl, sym, subst, rules, ◌∙◌, ap, length, arith}
use Rattle.std.proofs.lemmas.Option.{slice_get_read}
use Rattle.std.specs.Prelude.{slice_get}
use Rattle.model_history.specs.Rails.{rails_delayed}
use Rattle.run_signal.specs.Lanes.{in_lane}
use Rattle.run_step.specs.SendLaws.{received-is}
use Rattle.run_ticks.proofs.cases.answer.raw_answer.Goals as goal

pub bounds-sent-delay : goal.bounds-sent-delay
bounds-sent-delay g c =
    let delays = c.args.delays.now in
    let d = c.index-delays-channel.result in
    let at : slice_get delays c.args.channel ≡ Some d =
    slice_get_read delays _ c.args.channel d (sym c.requires.delays.count) c.requires.exists
    c.index-delays-channel.is in
    subst (λ (n : ℕ). d.from < n) (sym c.requires.sent.count)
    (c.requires.delays.from c.args.channel d at)

pub offset_bounds-sent-delay : goal.offset_bounds-sent-delay
offset_bounds-sent-delay g c =
    let delays = c.args.delays.now in
    let d = c.index-delays-channel.result in
    let at : slice_get delays c.args.channel ≡ Some d =
    slice_get_read delays _ c.args.channel d (sym c.requires.delays.count) c.requires.exists
    c.index-delays-channel.is in
    let inside : d.from < length c.args.sent.now =
    subst (λ (n : ℕ). d.from < n) (sym c.requires.sent.count)
    (c.requires.delays.from c.args.channel d at) in
    search (rules, inside)

pub bounds-delays-channel : goal.bounds-delays-channel
bounds-delays-channel g c =
    subst (λ (n : ℕ). c.args.channel < n) (sym c.requires.delays.count) c.requires.exists

pub offset_bounds-delays-channel : goal.offset_bounds-delays-channel
offset_bounds-delays-channel g c =
    let inside = bounds-delays-channel g c in search (rules, inside)

pub received-requires-clause-later : goal.received-requires-clause-later
received-requires-clause-later g c = λ lane inside.
    let delays = c.args.delays.now in
    let d = c.index-delays-channel.result in
    let at : slice_get delays c.args.channel ≡ Some d =
    slice_get_read delays _ c.args.channel d (sym c.requires.delays.count) c.requires.exists
    c.index-delays-channel.is in
    c.requires.delays.later c.args.channel d at lane inside

pub received-requires-clause-room : goal.received-requires-clause-room
received-requires-clause-room g c =
    let delays = c.args.delays.now in
    let d = c.index-delays-channel.result in
    let s = c.index-sent-delay.result in
    let at : slice_get delays c.args.channel ≡ Some d =
    slice_get_read delays _ c.args.channel d (sym c.requires.delays.count) c.requires.exists
    c.index-delays-channel.is in
    let f : slice_get c.args.sent.now d.from ≡ Some s =
    slice_get_read c.args.sent.now _ d.from s (sym c.requires.sent.count)
    (c.requires.delays.from c.args.channel d at) c.index-sent-delay.is in
    omega (
      arith,
      (c.requires.sent.each d.from s f).0,
      c.requires.tick,
      c.args.line.now.horizon_in_range.1,
    )

pub returns : goal.returns
returns g c = λ lane w keys inside of have.
    let delays = c.args.delays.now in
    let t = c.args.t in
    let d = c.index-delays-channel.result in
    let s = c.index-sent-delay.result in
    let at : slice_get delays c.args.channel ≡ Some d =
    slice_get_read delays _ c.args.channel d (sym c.requires.delays.count) c.requires.exists
    c.index-delays-channel.is in
    let there = c.requires.delays.from c.args.channel d at in
    let f : slice_get c.args.sent.now d.from ≡ Some s =
    slice_get_read c.args.sent.now _ d.from s (sym c.requires.sent.count) there
    c.index-sent-delay.is in
    let delay = of.delay c.args.channel d at in
    c.received.ensures lane inside
    ∙ received-is c.history_laws.ensures (in_lane g.V.Signal.signal.rails lane s.keys) (keys d.from) t
    (length s.keys) (g.V.Signal.signal.ends d.span lane) (g.V.Signal.signal.ends d.span lane)
    (have d.from s f) (c.requires.sent.each d.from s f).0 refl
    (c.requires.delays.later c.args.channel d at lane inside)
    ∙ ap (λ (k : ℕ). rails_delayed (keys k) (g.V.Signal.signal.ends d.span lane) t)
    (of.from c.args.channel d at)
    ∙ ap (λ e. rails_delayed (keys (w.from c.args.channel)) e t) delay
