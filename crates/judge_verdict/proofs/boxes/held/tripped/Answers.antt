use Rattle.std.proofs.Common.{◌≡◌, ◌<◌, ◌||◌, ℕ, Bool, sym, ◌∙◌, ap, arith}
use Rattle.model_history.specs.Rails.{Rails, must_of, may_of}
use Rattle.model_history.specs.Elements.{some_below}
use Rattle.run_changes.specs.changes.LaneLaws.{lane_at, some_through}
use Rattle.judge_verdict.specs.{boxes.Terns.terns_rails, boxes.Held.trip_rails}
use Rattle.judge_verdict.proofs.boxes.held.tripped.Goals as goal
use Rattle.judge_verdict.proofs.boxes.held.tripped.Goals.{After-min-t}

-- on a rail of a lane: whether the trip is on below the end of a stretch
through : (rail : Rails → Bool) (c : After-min-t) (lane : ℕ) → lane < 64 → (before : Bool)
    → before ≡ some_below (λ r. rail (trip_rails c.args.trip.now lane r)) c.stretches.t
    → (rail (terns_rails c.at.result lane) || before)
    ≡ some_below (λ r. rail (trip_rails c.args.trip.now lane r)) c.min-t.result
through rail c lane inside before so_far =
    let trip = c.args.trip.now in
    let t = c.stretches.t in
    let stays = c.stays_until.ensures.stays lane inside in
    some_through (λ r. rail (trip_rails trip lane r)) t c.min-t.result
    (rail (terns_rails c.at.result lane)) before
    (omega (arith, c.min-t.ensures, c.stays_until.ensures.later))
    (λ r low high. ap rail (stays.same r low (omega (arith, high, c.min-t.ensures))))
    (ap rail (sym (lane_at terns_rails trip.keys c.at.result lane t c.at.ensures))) so_far

pub stretches-preserved : goal.stretches-preserved
stretches-preserved c =
    let stretch = (goal.at.stretches-preserved c).After-min-t in
    record {
      inside = omega (arith, c.min-t.ensures);
      must = λ lane inside.
          ap must_of (c.or-lanes.ensures lane inside)
          ∙ through must_of stretch lane inside _ (c.stretches.invariant.must lane inside);
      may = λ lane inside.
          ap may_of (c.or-lanes.ensures lane inside)
          ∙ through may_of stretch lane inside _ (c.stretches.invariant.may lane inside);
    }
