use Rattle.std.proofs.Common.{◌≡◌, ◌∙◌, ◌++◌, ◌∷◌, [], ap, arith, subst, sym, ℕ, List, map}
use Rattle.std.proofs.lemmas.List.FromFn.{map-range_with_len_more}
use Rattle.std.specs.List.{range_with_len}
use Rattle.model_history.specs.Rails.{Ends}
use Rattle.model_line.specs.Parameters.{declared_ends, param_count}
use Rattle.judge_match.specs.explain.Asked.{IsPart}
use Rattle.judge_match.proofs.explain_lemmas.PartLaws.{declared_is}
use Rattle.judge_match.proofs.explain.parts.declared_part.Goals as goal

pub loop-param-preserved : goal.loop-param-preserved
loop-param-preserved c =
    let f : ℕ → Ends = declared_ends c.args.line.now in
    let k : ℕ = c.loop-param.param in
    c.in_ok-push.ensures.items
    ∙ ap (λ (xs : List Ends). xs ++ c.declared_interval-own.result ∷ []) c.loop-param.invariant
    ∙ ap (λ (e : Ends). map f (range_with_len 0 k) ++ e ∷ []) c.declared_interval-own.ensures
    ∙ sym (map-range_with_len_more f 0 k k (omega arith))

pub returns-clause-part : goal.returns-clause-part
returns-clause-part c =
    let line = c.args.line.now in
    let all : c.loop-param.param ≡ param_count line =
    omega (arith, c.loop-param-test.false, c.loop-param.auto, c.param_count-param-end.ensures.count) in
    subst (IsPart line)
    (sym (c.loop-param.invariant
    ∙ ap (λ (n : ℕ). map (declared_ends line) (range_with_len 0 n)) all))
    (declared_is c.delays_are_parameters.ensures line)
