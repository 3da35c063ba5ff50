use Rattle.std.proofs.Common.{◌∙◌, ◌++◌, ◌∷◌, [], List, ap}
use Rattle.model_settle.specs.Assumed.{Assumption}
use Rattle.judge_cases.proofs.ViewLaws.{assumed_is}
use Rattle.judge_cases.proofs.view.assumed_view.Goals as goal

pub returns : goal.returns
returns c =
    let view = c.args.view.now in
    let a : Assumption = c.args.new in
    let rest : List Assumption = c.deref-2.result.now in
    assumed_is c.args.line.now view
    (record { ends = c.in_ok-ends.ends; assumed = c.extend_from_slice.new.self }) a c.requires
    (c.in_ok-ends.ensures.items ∙ c.deref.ensures.value)
    (c.in_ok-extend_from_slice.ensures.items
    ∙ ap (λ (l : List Assumption). l ++ rest) (c.in_ok-push.ensures.items
    ∙ ap (λ (l : List Assumption). l ++ a ∷ []) c.in_ok-assumed.ensures.items)
    ∙ ap (λ (l : List Assumption). a ∷ l) c.deref-2.ensures.value)
