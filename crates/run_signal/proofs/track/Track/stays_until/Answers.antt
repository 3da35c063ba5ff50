use Rattle.std.proofs.Common.{◌≡◌, ◌<◌, ℕ, length, List, subst, sym, arith}
use Rattle.model_history.specs.Rails.{rails_at}
use Rattle.run_signal.specs.Lanes.{in_lane}
use Rattle.run_signal.specs.{SentKeys.SentKeys, Tracks.StaysUntil, Tracks.IsNextAfter}
use Rattle.run_signal.specs.Tracks.{all_values}
use Rattle.run_signal.proofs.TrackLaws.{all_long, stays, stays_before, stays_last}
use Rattle.run_signal.proofs.track.Track.stays_until.Goals as goal

pub returns-then-t-len-clause-stays : goal.returns-then-t-len-clause-stays
returns-then-t-len-clause-stays g c = λ lane there.
    let inside = c.self.inside in
    let long = all_long inside.values.items inside.last inside.len c.self.invariant.before in
    let early : c.args.t < length (all_values inside.values.items inside.last inside.len) =
    subst (λ (s : SentKeys _). c.args.t < length s.keys) (sym c.self.view_is) c.requires in
    subst (λ (s : SentKeys _). StaysUntil (rails_at (in_lane g.V.Signal.signal.rails lane s.keys))
    c.args.t (length s.keys) inside.len) c.self.view_is
    (stays_last g.V.Signal.signal inside.values.items inside.last inside.len
    c.args.t lane c.self.invariant.before (omega (arith, c.if-t-len.true, c.len.ensures))
    (omega (arith, early, long)))

pub returns-then-soon-t-clause-stays : goal.returns-then-soon-t-clause-stays
returns-then-soon-t-clause-stays g c = λ lane there.
    let inside = c.self.inside in
    subst (λ (s : SentKeys _). StaysUntil (rails_at (in_lane g.V.Signal.signal.rails lane s.keys))
    c.args.t (length s.keys) c.same_until-soon.result) c.self.view_is
    (stays_before g.V.Signal.signal inside.values.items inside.last inside.len
    c.args.t c.same_until-soon.result lane c.self.invariant.before
    (subst (λ l. StaysUntil (rails_at (in_lane g.V.Signal.signal.rails lane l)) c.args.t (length l)
    c.same_until-soon.result) c.deref.ensures.value
    (c.same_until-soon.ensures.stays lane there)))

pub returns-clause-stays : goal.returns-clause-stays
returns-clause-stays g c = λ lane there.
    let inside = c.self.inside in
    let keys = all_values inside.values.items inside.last inside.len in
    let end = c.next_after.result in
    let long : length keys ≡ inside.len =
    all_long inside.values.items inside.last inside.len c.self.invariant.before in
    let next : IsNextAfter inside.changes.items c.args.t (length keys) end =
    subst (λ (n : ℕ). IsNextAfter inside.changes.items c.args.t n end) (sym long)
    (subst (λ (l : List ℕ). IsNextAfter l c.args.t inside.len end) c.deref-2.ensures.value
    c.next_after.ensures) in
    subst (λ (s : SentKeys _). StaysUntil (rails_at (in_lane g.V.Signal.signal.rails lane s.keys))
    c.args.t (length s.keys) end) c.self.view_is
    (stays g.V.Signal.signal keys inside.changes.items c.args.t end
    c.self.invariant.track.told next lane there)
