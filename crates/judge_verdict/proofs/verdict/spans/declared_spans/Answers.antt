use Rattle.std.proofs.Common.{◌≡◌, ◌<◌, ◌+◌, ◌++◌, ◌∷◌, [], ℕ, List, length, get_or, map, take}
use Rattle.std.proofs.Common.{sym, ◌∙◌, ap, subst, arith}
use Rattle.std.proofs.Math.Seq.{take-length}
use Rattle.std.proofs.lemmas.List.{map-append, take_more}
use Rattle.model_history.specs.Rails.{Ends}
use Rattle.model_line.specs.declared.line.Param.{Param}
use Rattle.judge_verdict.specs.verdict.DeclaredLaws.{interval_at}
use Rattle.judge_verdict.specs.verdict.Spans.{declared_span}
use Rattle.judge_verdict.proofs.verdict.spans.declared_spans.Goals as goal

-- the spans of the first i parameters, and one more
one_more : (params list : List Param) → list ≡ params → (old new : List Ends) (i : ℕ) (p : Param)
    (x : Ends) → i < length list → p ≡ get_or list i p → old ≡ map declared_span (take i params)
    → x ≡ declared_span p → new ≡ old ++ (x ∷ []) → new ≡ map declared_span (take (i + 1) params)
one_more params list same old new i p x lt is so span made =
    let here : i < length params = subst (λ (l : List Param). i < length l) same lt in
    let own : x ≡ declared_span (get_or params i p) =
    span ∙ ap declared_span (is ∙ ap (λ (l : List Param). get_or l i p) same) in
    made ∙ ap (λ (l : List Ends). l ++ (x ∷ [])) so
    ∙ ap (λ (y : Ends). map declared_span (take i params) ++ (y ∷ [])) own
    ∙ sym (ap (map declared_span) (take_more params i p here)
    ∙ map-append declared_span (take i params) (get_or params i p ∷ []))

pub loop-param-init : goal.loop-param-init
loop-param-init c = c.in_ok-spans.ensures.items

pub new-requires-clause-ordered : goal.new-requires-clause-ordered
new-requires-clause-ordered c =
    (interval_at c.args.line.now c.deref-param-items.result.now c.deref-param-items.ensures.value
    c.loop-param.param-index c.param-item.result c.loop-param-test.true c.param-item.is).0

pub new-requires-clause-limited : goal.new-requires-clause-limited
new-requires-clause-limited c =
    (interval_at c.args.line.now c.deref-param-items.result.now c.deref-param-items.ensures.value
    c.loop-param.param-index c.param-item.result c.loop-param-test.true c.param-item.is).1

pub loop-param-preserved : goal.loop-param-preserved
loop-param-preserved c =
    one_more c.args.line.now.params.items c.deref-param-items.result.now
    c.deref-param-items.ensures.value c.loop-param.spans.items c.push.new.self.items
    c.loop-param.param-index c.param-item.result c.new.result c.loop-param-test.true c.param-item.is
    c.loop-param.invariant c.new.ensures c.in_ok-push.ensures.items

pub returns : goal.returns
returns c =
    let params = c.args.line.now.params.items in
    let all : length params ≡ c.loop-param.param-index =
    omega (
      arith,
      ap length c.deref-param-items.ensures.value,
      c.loop-param-test.false,
      c.loop-param.auto.param-index-end,
    ) in
    c.loop-param.invariant
    ∙ ap (map declared_span)
    (subst (λ (n : ℕ). take n params ≡ params) all (take-length params))
