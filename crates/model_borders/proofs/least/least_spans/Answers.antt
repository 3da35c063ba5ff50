use Rattle.std.proofs.Common.{◌≡◌, ℕ, List, length, take, ◌∙◌, ap, subst, arith}
use Rattle.std.proofs.Math.Seq.{take-length}
use Rattle.model_borders.specs.Least.{least_span, least_spans}
use Rattle.model_borders.specs.declared.script.Border.{Border}
use Rattle.model_borders.proofs.Leasts.{one_more}
use Rattle.model_borders.proofs.least.least_spans.Goals as goal

pub loop-i-preserved : goal.loop-i-preserved
loop-i-preserved c =
    one_more c.args.script.now.borders.items c.args.part.now c.args.script.now.spans.items
    c.loop-i.spans.items c.push_span.new.spans.items c.loop-i.i c.index.result.now
    c.least_span-span.result (omega (arith, c.loop-i-test.true)) c.index.ensures
    c.loop-i.invariant
    (subst (λ (l : List Border). c.least_span-span.result ≡ least_span l c.args.part.now c.index.result.now)
    c.as_slice.ensures.value c.least_span-span.ensures)
    c.in_ok-push_span.ensures

pub returns : goal.returns
returns c =
    let spans = c.args.script.now.spans.items in
    let all : length spans ≡ c.loop-i.i = omega (arith, c.loop-i-test.false, c.loop-i.auto.i-end) in
    c.loop-i.invariant
    ∙ ap (least_spans c.args.script.now.borders.items c.args.part.now)
    (subst (λ (n : ℕ). take n spans ≡ spans) all (take-length spans))
