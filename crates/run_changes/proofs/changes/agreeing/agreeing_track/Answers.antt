use Rattle.std.proofs.Common.{◌≡◌, ◌≤◌, ℕ, arith, subst}
use Rattle.std.specs.Prelude.{◌↔◌, IsTrue}
use Rattle.run_changes.specs.changes.Agreeing.{AgreeIn}
use Rattle.model_history.specs.Rails.{rails_at}
use Rattle.run_signal.specs.{Lanes.in_lane, Levels.level_rails}
use Rattle.run_changes.specs.changes.LaneLaws.{lane_at}
use Rattle.run_changes.proofs.changes_lemmas.AgreeLaws.{none_yet, ticks_more}
use Rattle.run_changes.proofs.changes.agreeing.agreeing_track.Goals as goal

pub stretches-init : goal.stretches-init
stretches-init g c = record {
  from = omega arith;
  inside = omega arith;
  lanes = λ lane inside.
      none_yet (rails_at (in_lane g.V.Signal.signal.rails lane c.args.track.now.keys))
      (rails_at (in_lane (λ x _. level_rails x) 0 c.args.recorded.now.keys)) c.args.from
      (g.V.Signal.signal.rails c.known-lanes.result lane) (c.known-lanes.ensures lane inside);
}

pub stretches-preserved : goal.stretches-preserved
stretches-preserved g c =
    let t = c.stretches.t in
    let track = c.args.track.now in
    let recorded = c.args.recorded.now in
    let rails = g.V.Signal.signal.rails in
    let low : c.args.from ≤ t = c.stretches.invariant.from in
    record {
      from = omega (arith, c.both_stay-t.ensures.later);
      inside = c.both_stay-t.ensures.limited;
      lanes = λ lane inside.
          ticks_more (rails_at (in_lane rails lane track.keys))
          (rails_at (in_lane (λ x _. level_rails x) 0 recorded.keys)) c.args.from t
          c.both_stay-t.result _ _ (rails c.stretches.lanes lane) (rails c.at_level.result lane)
          (rails c.and-lanes.result lane) (rails c.at.result lane) (level_rails c.at-in-stretches.result) low
          (c.and-lanes.ensures lane inside) (c.stretches.invariant.lanes lane inside)
          (c.at_level.ensures lane inside)
          (lane_at rails track.keys c.at.result lane t c.at.ensures)
          (lane_at (λ x _. level_rails x) recorded.keys c.at-in-stretches.result 0 t c.at-in-stretches.ensures)
          (c.both_stay-t.ensures.track lane inside) c.both_stay-t.ensures.recorded;
    }

pub at-requires : goal.at-requires
at-requires g c = omega (arith, c.stretches-test.true, c.requires.track)

pub at-requires-in-stretches : goal.at-requires-in-stretches
at-requires-in-stretches g c =
    omega (arith, c.stretches-test.true, c.requires.recorded)

pub both_stay-t-requires-clause-from : goal.both_stay-t-requires-clause-from
both_stay-t-requires-clause-from g c = c.stretches-test.true

pub both_stay-t-requires-clause-track : goal.both_stay-t-requires-clause-track
both_stay-t-requires-clause-track g c = c.requires.track

pub both_stay-t-requires-clause-recorded : goal.both_stay-t-requires-clause-recorded
both_stay-t-requires-clause-recorded g c = c.requires.recorded

pub stretches-smaller : goal.stretches-smaller
stretches-smaller g c =
    omega (arith, c.both_stay-t.ensures.later, c.stretches-test.true)

pub returns : goal.returns
returns g c = λ lane inside.
    let rails = g.V.Signal.signal.rails in
    let last : c.stretches.t ≡ c.args.end =
    omega (arith, c.stretches.invariant.inside, c.stretches-test.false) in
    subst (λ (n : ℕ). IsTrue (rails c.stretches.lanes lane).must
    ↔ AgreeIn (rails_at (in_lane rails lane c.args.track.now.keys))
    (rails_at (in_lane (λ x _. level_rails x) 0 c.args.recorded.now.keys)) c.args.from n)
    last (c.stretches.invariant.lanes lane inside)
