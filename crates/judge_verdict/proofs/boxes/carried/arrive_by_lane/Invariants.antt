use Rattle.std.proofs.Common.{◌≡◌, ℕ, ◌<◌, length}
use Rattle.model_history.specs.Rails.{Rails, IsSound, both, rails_at, rails_delayed}
use Rattle.run_signal.specs.{Bits.bit_rails, Lanes.in_lane}
use Rattle.judge_verdict.specs.{boxes.Spans.span_ends, boxes.Terns.terns_rails}
use Rattle.judge_verdict.proofs.boxes.carried.arrive_by_lane.Given as goal

-- the lanes so far have what is received in them
abbrev pub invariant-loop-lane : goal.invariant-loop-lane
invariant-loop-lane l =
    let whole : ℕ → Rails = λ k. rails_delayed (rails_at (in_lane terns_rails k l.sent.keys))
    (span_ends l.delay k) (length l.sent.keys) in
    record {
      must : (k : ℕ) → k < l.lane → bit_rails l.must k ≡ both (whole k).must;
      may : (k : ℕ) → k < l.lane → bit_rails l.may k ≡ both (whole k).may;
      sound : (k : ℕ) → k < l.lane → IsSound (whole k);
    }
