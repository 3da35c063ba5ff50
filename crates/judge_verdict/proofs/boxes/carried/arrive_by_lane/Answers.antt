use Rattle.std.proofs.Common.{◌≡◌, ◌≢◌, ◌<◌, ℕ, length, ◌∙◌, ap, subst, arith, below_more}
use Rattle.model_history.specs.Rails.{Rails, Ends, IsSound, both, must_of, may_of, rails_at}
use Rattle.model_history.specs.Rails.{rails_delayed}
use Rattle.run_signal.specs.{Bits.bit_rails, Lanes.in_lane, Spans.ends_of}
use Rattle.judge_verdict.specs.{boxes.Spans.span_ends, boxes.Terns.terns_rails}
use Rattle.judge_verdict.specs.{boxes.TernLaws.terns_sound}
use Rattle.judge_verdict.proofs.boxes_lemmas.SentLaws.{by_bits}
use Rattle.judge_verdict.proofs.boxes.carried.arrive_by_lane.Goals as goal

pub loop-lane-preserved : goal.loop-lane-preserved
loop-lane-preserved c =
    let sent = c.args.sent.now.keys in
    let delay = c.args.delay.now in
    let i : ℕ = c.loop-lane.lane in
    let inside : i < 64 = c.loop-lane-test.true in
    let whole : ℕ → Rails = λ k. rails_delayed (rails_at (in_lane terns_rails k sent))
    (span_ends delay k) (length sent) in
    let ends : ends_of c.least_in.result c.greatest_in.result ≡ span_ends delay i =
    ap (λ (n : ℕ). ends_of n c.greatest_in.result) c.least_in.ensures.least
    ∙ ap (λ (n : ℕ). ends_of (span_ends delay i).least n) c.greatest_in.ensures.greatest in
    let got : terns_rails c.arrive_alike-received.result i ≡ whole i =
    c.arrive_alike-received.ensures i inside
    ∙ ap (λ (e : Ends). rails_delayed (rails_at (in_lane terns_rails i sent)) e (length sent)) ends in
    record {
      must = below_more (λ k. bit_rails c.with_lane-must.result k ≡ both (whole k).must) i
          (λ k before.
          let ne : k ≢ i = omega arith in
          let low : k < 64 = omega arith in
          c.with_lane-must.ensures.others k low ne ∙ c.loop-lane.invariant.must k before)
          (c.with_lane-must.ensures.lane ∙ ap both (c.must.ensures ∙ ap must_of got));
      may = below_more (λ k. bit_rails c.with_lane-may.result k ≡ both (whole k).may) i
          (λ k before.
          let ne : k ≢ i = omega arith in
          let low : k < 64 = omega arith in
          c.with_lane-may.ensures.others k low ne ∙ c.loop-lane.invariant.may k before)
          (c.with_lane-may.ensures.lane
          ∙ ap both (c.must-in-loop-lane.ensures ∙ c.possible.ensures i inside ∙ ap may_of got));
      sound = below_more (λ k. IsSound (whole k)) i c.loop-lane.invariant.sound
          (subst (λ (x : Rails). IsSound x) got (terns_sound c.arrive_alike-received.result i));
    }

pub returns : goal.returns
returns c = λ lane inside.
    let before : lane < c.loop-lane.lane = omega arith in
    let whole : Rails = rails_delayed (rails_at (in_lane terns_rails lane c.args.sent.now.keys))
    (span_ends c.args.delay.now lane) (length c.args.sent.now.keys) in
    by_bits c.loop-lane.must c.loop-lane.may lane whole
    (ap must_of (c.loop-lane.invariant.must lane before))
    (ap must_of (c.loop-lane.invariant.may lane before))
    (c.loop-lane.invariant.sound lane before)
