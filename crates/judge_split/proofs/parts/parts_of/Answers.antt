use Rattle.std.proofs.Common.{◌≡◌, ◌<◌, ◌++◌, ◌∷◌, [], List, Some, length, ◌∙◌, ap, rules, arith}
use Rattle.std.proofs.lemmas.Option.{slice_get_read}
use Rattle.std.specs.Prelude.{slice_get}
use Rattle.model_line.specs.declared.line.Line.{Line}
use Rattle.judge_split.proofs.PartsLaws.{two_parts, more_parts}
use Rattle.judge_split.proofs.parts.parts_of.Goals as goal

pub loop-i-init : goal.loop-i-init
loop-i-init c =
    two_parts c.args.line.now c.args.param c.push-2.new.self.items c.in_ok-first.first
    c.in_ok-first.second
    (c.in_ok-push-2.ensures.items
    ∙ ap (λ (l : List Line). l ++ c.in_ok-first.second ∷ []) c.in_ok-push.ensures.items
    ∙ ap (λ (l : List Line). (l ++ c.in_ok-first.first ∷ []) ++ c.in_ok-first.second ∷ [])
    c.new-parts.ensures.items)
    c.in_ok-first.ensures.0 c.in_ok-first.ensures.1

pub loop-i-preserved : goal.loop-i-preserved
loop-i-preserved c =
    let old = c.loop-i.parts.items in
    let inside : c.loop-i.i < length old = omega (arith, c.loop-i.invariant.count) in
    let at : slice_get old c.loop-i.i ≡ Some c.index.result.now =
    search (rules, slice_get_read) in
    more_parts c.args.line.now c.args.param c.loop-i.i old c.push-in-loop-i-2.new.self.items
    c.index.result.now c.in_ok-low.low c.in_ok-low.high
    (c.in_ok-push-4.ensures.items
    ∙ ap (λ (l : List Line). l ++ c.in_ok-low.high ∷ []) c.in_ok-push-3.ensures.items)
    at c.in_ok-low.ensures.rest.0 c.in_ok-low.ensures.rest.1 c.in_ok-low.ensures.halves
    c.loop-i.invariant

pub returns-clause-parts : goal.returns-clause-parts
returns-clause-parts c = record { each = c.loop-i.invariant.rest }
