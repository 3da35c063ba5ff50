use Rattle.std.proofs.Common.{◌≡◌, ◌≤◌, ◌+◌, ◌-◌, ◌++◌, ℕ, length, subst, sym, ap, ◌∙◌, arith}
use Rattle.std.specs.Prelude.{replicate, vec_capacity}
use Rattle.run_signal.specs.{SentKeys.SentKeys, Tracks.all_values}
use Rattle.run_signal.specs.Lanes.{in_lane}
use Rattle.run_signal.proofs.TrackLaws.{all_long, held_on, held_turned, sent_on, sent_turned}
use Rattle.run_signal.proofs.track.Track.push.Goals as goal

pub invariant_of-self : goal.invariant_of-self
invariant_of-self g c =
    let inside = c.self.inside in
    let long = all_long inside.values.items inside.last inside.len c.self.invariant.before in
    let fits : length (all_values inside.values.items inside.last inside.len) + c.args.count
    ≤ inside.horizon =
    subst (λ (s : SentKeys _). length s.keys + c.args.count ≤ s.horizon) (sym c.self.view_is)
    c.requires.room in
    held_on g.V.Signal.signal inside.values.items inside.last inside.len
    (vec_capacity inside.values) inside.changes.items (vec_capacity inside.changes)
    inside.horizon c.args.count (c.goes_on.ensures.some c.if-goes_on.true) c.requires.some
    (omega (arith, fits, long)) c.self.invariant

pub invariant_of-self-2 : goal.invariant_of-self-2
invariant_of-self-2 g c =
    let inside = c.self.inside in
    let long = all_long inside.values.items inside.last inside.len c.self.invariant.before in
    let fits : length (all_values inside.values.items inside.last inside.len) + c.args.count
    ≤ inside.horizon =
    subst (λ (s : SentKeys _). length s.keys + c.args.count ≤ s.horizon) (sym c.self.view_is)
    c.requires.room in
    let written : c.len.result ≡ length inside.values.items = omega (arith, c.len.ensures) in
    held_turned g.V.Signal.signal inside.values.items
    c.fill_within.new.list.items inside.last c.args.value inside.len
    (vec_capacity inside.values) (vec_capacity c.fill_within.new.list) inside.changes.items
    c.push_reserved.new.self.items (vec_capacity inside.changes)
    (vec_capacity c.push_reserved.new.self) inside.horizon c.args.count c.requires.some
    (omega (arith, fits, long))
    (c.fill_within.ensures.items
    ∙ ap (λ (n : ℕ). inside.values.items ++ replicate (inside.len - n) inside.last) written)
    c.fill_within.ensures.room c.push_reserved.ensures.items
    (omega (arith, c.push_reserved.ensures.capacity)) c.self.invariant

pub returns-then-goes_on-clause-keys : goal.returns-then-goes_on-clause-keys
returns-then-goes_on-clause-keys g c = λ lane there.
    let inside = c.self.inside in
    sent_on g.V.Signal.signal inside.values.items inside.last c.args.value
    inside.len c.args.count lane c.self.invariant.before
    (c.goes_on.ensures.same c.if-goes_on.true lane there)
    ∙ ap (λ (s : SentKeys _). in_lane g.V.Signal.signal.rails lane s.keys
    ++ replicate c.args.count (g.V.Signal.signal.rails c.args.value lane)) c.self.view_is

pub returns-clause-keys : goal.returns-clause-keys
returns-clause-keys g c = λ lane there.
    let inside = c.self.inside in
    let written : c.len.result ≡ length inside.values.items = omega (arith, c.len.ensures) in
    sent_turned g.V.Signal.signal inside.values.items
    c.fill_within.new.list.items inside.last c.args.value inside.len c.args.count lane
    c.self.invariant.before
    (c.fill_within.ensures.items
    ∙ ap (λ (n : ℕ). inside.values.items ++ replicate (inside.len - n) inside.last) written)
    ∙ ap (λ (s : SentKeys _). in_lane g.V.Signal.signal.rails lane s.keys
    ++ replicate c.args.count (g.V.Signal.signal.rails c.args.value lane)) c.self.view_is
