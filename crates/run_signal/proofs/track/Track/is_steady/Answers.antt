use Rattle.std.proofs.Common.{◌≡◌, ℕ, ◌-◌, ◌<◌, ◌≤◌, List, Some, length, sym, ◌∙◌, subst, arith, leb-true}
use Rattle.std.specs.Prelude.{slice_get}
use Rattle.model_history.specs.Rails.{Ends, rails_at}
use Rattle.run_signal.specs.Lanes.{in_lane}
use Rattle.run_signal.specs.{SentKeys.SentKeys, Tracks.IsSteadySince, Tracks.all_values}
use Rattle.run_signal.proofs.TrackLaws.{steady_since, all_long}
use Rattle.run_signal.proofs.track.Track.is_steady.Goals as goal

pub returns-clause-some : goal.returns-clause-some
returns-clause-some g c = λ on.
    let inside = c.self.inside in
    let e : Ends = g.V.Signal.signal.ends c.args.delay.now 0 in
    let lanes : c.LANES-lanes.result ≡ g.V.Signal.signal.lanes = c.LANES-lanes.ensures ∙
    sym g.met.V.Signal.lanes_are in
    let one : 0 < g.V.Signal.signal.lanes = omega (arith, lanes, c.if-lanes-ne1.false) in
    let later : 1 ≤ e.least = c.requires 0 one in
    let ordered : e.least ≤ e.greatest = (c.greatest-greatest.ensures.in_order 0 one).ordered in
    let is : c.greatest-greatest.result ≡ e.greatest = c.greatest-greatest.ensures.greatest in
    let long = all_long inside.values.items inside.last inside.len c.self.invariant.before in
    let past : c.greatest-greatest.result ≤ inside.len = c.if-t-greatest.false in
    subst (λ (s : SentKeys _). 1 ≤ length s.keys) c.self.view_is
    (omega (arith, later, ordered, is, long, past))

pub returns-clause-since : goal.returns-clause-since
returns-clause-since g c = λ on lane there.
    let inside = c.self.inside in
    let keys = all_values inside.values.items inside.last inside.len in
    let changes = inside.changes.items in
    let e : Ends = g.V.Signal.signal.ends c.args.delay.now lane in
    let most = c.greatest-greatest.result in
    let lanes : c.LANES-lanes.result ≡ g.V.Signal.signal.lanes = c.LANES-lanes.ensures ∙
    sym g.met.V.Signal.lanes_are in
    let first : 0 ≡ lane = omega (arith, lanes, there, c.if-lanes-ne1.false) in
    let is : most ≡ e.greatest =
    subst (λ (k : ℕ). most ≡ (g.V.Signal.signal.ends c.args.delay.now k).greatest) first
    c.greatest-greatest.ensures.greatest in
    let ordered : e.least ≤ e.greatest =
    (c.greatest-greatest.ensures.in_order lane there).ordered in
    let later : 1 ≤ e.least = c.requires lane there in
    let long : length keys ≡ inside.len =
    all_long inside.values.items inside.last inside.len c.self.invariant.before in
    let past : most ≤ inside.len = c.if-t-greatest.false in
    let low : c.last_change.result ≤ inside.len - most = leb-true _ _ on in
    subst (λ (s : SentKeys _). IsSteadySince (rails_at (in_lane g.V.Signal.signal.rails lane
    s.keys)) e
    (length s.keys)) c.self.view_is
    (steady_since g.V.Signal.signal keys changes e c.self.invariant.track.told
    ordered (omega (arith, later, ordered)) (omega (arith, past, is, long))
    (λ i k at.
    let before : k ≤ c.last_change.result =
    c.last_change.ensures i k
    (subst (λ (l : List ℕ). slice_get l i ≡ Some k) (sym c.deref.ensures.value) at) in
    omega (arith, before, low, is, long))
    lane there)
