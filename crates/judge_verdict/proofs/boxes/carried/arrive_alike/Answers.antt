use Rattle.std.proofs.Common.{◌≡◌, ◌≤◌, ◌+◌, ◌&&◌, ◌||◌, ℕ, Bool, length, sym, ◌∙◌, ap, arith}
use Rattle.model_history.specs.Rails.{must_of, rails_at}
use Rattle.run_signal.specs.{Bits.bit_on, Lanes.in_lane}
use Rattle.judge_verdict.specs.{boxes.Terns.terns_rails, boxes.Sent.must_before, boxes.Sent.may_before}
use Rattle.judge_verdict.proofs.boxes_lemmas.SentLaws.{all_none, some_none, all_more, some_more, all_received}
use Rattle.judge_verdict.proofs.boxes.carried.arrive_alike.Goals as goal

pub loop-c-init : goal.loop-c-init
loop-c-init c =
    let sent = c.args.sent.now.keys in
    record {
      must = λ lane inside.
          ap must_of (c.known-must.ensures lane inside)
          ∙ sym (all_none (λ r. (rails_at (in_lane terns_rails lane sent) r).must) c.args.least
          (length sent));
      may = λ lane inside.
          ap must_of (c.known-may.ensures lane inside)
          ∙ sym (some_none (λ r. (rails_at (in_lane terns_rails lane sent) r).may) c.args.least
          (length sent));
    }

pub loop-c-preserved : goal.loop-c-preserved
loop-c-preserved c =
    let sent = c.args.sent.now.keys in
    let n : ℕ = c.loop-c.c in
    let low : c.args.least ≤ n = c.loop-c.auto.c in
    record {
      must = λ lane inside.
          ap must_of (c.and-must.ensures lane inside)
          ∙ ap (λ (b : Bool). b && bit_on c.loop-c.must lane) (c.key_before-key.ensures.must lane inside)
          ∙ ap (λ (b : Bool). must_before sent lane n && b)
          (c.loop-c.invariant.must lane inside)
          ∙ all_more (λ r. (rails_at (in_lane terns_rails lane sent) r).must) c.args.least
          (length sent) n low;
      may = λ lane inside.
          ap must_of (c.or-may.ensures lane inside)
          ∙ ap (λ (b : Bool). b || bit_on c.loop-c.may lane) (c.possible.ensures lane inside
          ∙ c.key_before-key.ensures.may lane inside)
          ∙ ap (λ (b : Bool). may_before sent lane n || b)
          (c.loop-c.invariant.may lane inside)
          ∙ some_more (λ r. (rails_at (in_lane terns_rails lane sent) r).may) c.args.least
          (length sent) n low;
    }

pub returns : goal.returns
returns c = λ lane inside.
    let end : c.loop-c.c ≡ c.args.greatest + 1 = omega arith in
    all_received c.delays_stay_sound.ensures c.args.sent.now.keys lane c.args.least c.args.greatest
    c.loop-c.c c.loop-c.must c.loop-c.may c.requires.ordered end
    (c.loop-c.invariant.must lane inside) (c.loop-c.invariant.may lane inside)
