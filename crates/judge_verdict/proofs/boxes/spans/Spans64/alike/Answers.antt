use Rattle.std.proofs.Common.{◌≡◌, ℕ, Bool, true, false, ◌&&◌, IsTrue, refl, sym, ◌∙◌, ap, subst, slice_index}
use Rattle.model_history.specs.Rails.{Ends, must_of}
use Rattle.run_signal.specs.{Bits.bit_on, Spans.ends_of}
use Rattle.judge_verdict.specs.boxes.Spans.{SpanLists, span_ends}
use Rattle.judge_verdict.proofs.boxes.spans.Spans64.alike.Goals as goal

both_on : (a b all : Bool) → all ≡ (a && b) → IsTrue all → IsTrue a × IsTrue b
both_on true true all is on = (refl, refl)
both_on true false all is on = let e : false ≡ true = sym is ∙ on in absurd (cc)
both_on false b all is on = let e : false ≡ true = sym is ∙ on in absurd (cc)

pub returns-clause-itself : goal.returns-clause-itself
returns-clause-itself c =
    let lane = c.args.lane in
    ap must_of (c.and.ensures lane c.requires)
    ∙ ap (λ (b : Bool). b && bit_on c.alike-greatest.result lane) c.alike.ensures.itself
    ∙ c.alike-greatest.ensures.itself

pub returns-clause-alike : goal.returns-clause-alike
returns-clause-alike c = λ k inside on.
    let lists = c.self.inside in
    let lane = c.args.lane in
    let (low, high) = both_on (bit_on c.alike.result k) (bit_on c.alike-greatest.result k)
    (bit_on c.and.result k) (ap must_of (c.and.ensures k inside)) on in
    let least : slice_index lists.least k ≡ slice_index lists.least lane =
    ap (λ (e : Ends). e.least) (c.alike.ensures.alike k inside low) in
    let greatest : slice_index lists.greatest k ≡ slice_index lists.greatest lane =
    ap (λ (e : Ends). e.greatest) (c.alike-greatest.ensures.alike k inside high) in
    subst (λ (s : SpanLists). span_ends s k ≡ span_ends s lane) c.self.view_is
    (ap (λ (n : ℕ). ends_of n (slice_index lists.greatest k)) least
    ∙ ap (λ (n : ℕ). ends_of (slice_index lists.least lane) n) greatest)
