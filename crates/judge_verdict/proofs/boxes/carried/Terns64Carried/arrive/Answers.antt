use Rattle.std.proofs.Common.{◌≡◌, ℕ, length, sym, ◌∙◌, ap}
use Rattle.model_history.specs.Rails.{Ends, rails_at, rails_delayed}
use Rattle.run_signal.specs.{Lanes.in_lane, Spans.ends_of}
use Rattle.judge_verdict.specs.{boxes.Spans.span_ends, boxes.Spans.AreAlike, boxes.Terns.terns_rails}
use Rattle.judge_verdict.proofs.boxes.carried.Terns64Carried.arrive.Goals as goal

pub returns-then-is_alike : goal.returns-then-is_alike
returns-then-is_alike c = λ lane inside.
    let delay = c.args.delay.now in
    let alike : AreAlike delay = c.is_alike.ensures c.if-is_alike.true in
    let ends : ends_of c.least_in.result c.greatest_in.result ≡ span_ends delay lane =
    ap (λ (n : ℕ). ends_of n c.greatest_in.result)
    (c.least_in.ensures.least ∙ sym (alike.least lane inside))
    ∙ ap (λ (n : ℕ). ends_of (span_ends delay lane).least n)
    (c.greatest_in.ensures.greatest ∙ sym (alike.greatest lane inside)) in
    c.arrive_alike.ensures lane inside
    ∙ ap (λ (e : Ends). rails_delayed (rails_at (in_lane terns_rails lane c.args.sent.now.keys)) e
    (length c.args.sent.now.keys)) ends
