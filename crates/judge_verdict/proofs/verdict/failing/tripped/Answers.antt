use Rattle.std.proofs.Common.{◌<◌, sym, ◌∙◌, ap, arith}
use Rattle.model_history.specs.Rails.{must_of}
use Rattle.run_signal.specs.Bits.{bit_rails}
use Rattle.run_changes.specs.changes.LaneLaws.{lane_at, some_through}
use Rattle.judge_verdict.specs.verdict.Candidates.{trips_in}
use Rattle.judge_verdict.proofs.verdict.failing.tripped.Goals as goal

pub stretches-preserved : goal.stretches-preserved
stretches-preserved c =
    let t = c.stretches.t in
    let end = c.min-t.result in
    let trip = c.args.trip.now in
    let later : t < end = omega (arith, c.min-t.ensures, c.stays_until.ensures.later) in
    record {
      inside = omega (arith, c.min-t.ensures);
      lanes = λ lane inside.
          let stays = c.stays_until.ensures.stays lane inside in
          ap must_of (c.or-lanes.ensures lane inside)
          ∙ some_through (trips_in trip lane) t end _ _ later
          (λ r low high. ap must_of (stays.same r low (omega (arith, c.min-t.ensures))))
          (ap must_of (sym
          (lane_at (λ x l. bit_rails x l) trip.keys c.at.result lane t c.at.ensures)))
          (c.stretches.invariant.lanes lane inside);
    }
