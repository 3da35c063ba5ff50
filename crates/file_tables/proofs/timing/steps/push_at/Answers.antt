use Rattle.std.proofs.Common.{◌++◌, ◌∷◌, [], ℕ, suc, List, Option, drop}
use Rattle.std.proofs.Common.{append_assoc, sym, ◌∙◌, ap}
use Rattle.std.proofs.Math.Seq.{drop-cons}
use Rattle.model_timing.specs.declared.step.Step.{Step}
use Rattle.file_tables.specs.timing.Table.{listed}
use Rattle.file_tables.proofs.timing.steps.push_at.Goals as goal

pub returns-in_ok-push-in-Some : goal.returns-in_ok-push-in-Some
returns-in_ok-push-in-Some c =
    let t : List (Option ℕ) = c.args.table.now in
    let p = c.args.place in
    let rest : List (Step ℕ) = listed (suc p) (drop (suc p) t) in
    ap (λ (l : List (Step ℕ)). l ++ rest) (c.in_ok-push-in-Some.ensures.items)
    ∙ append_assoc c.args.steps.now.items (c.step_at.result ∷ []) rest
    ∙ ap (λ (s : Step ℕ). c.args.steps.now.items ++ s ∷ rest) c.step_at.ensures
    ∙ ap (λ (l : List (Option ℕ)). c.args.steps.now.items ++ listed p l)
    (ap (λ (o : Option ℕ). o ∷ drop (suc p) t) (sym c.in-Some.is)
    ∙ sym (drop-cons t p _ c.requires.inside))

pub returns-in-None : goal.returns-in-None
returns-in-None c =
    let t : List (Option ℕ) = c.args.table.now in
    let p = c.args.place in
    ap (λ (l : List (Option ℕ)). c.args.steps.now.items ++ listed p l)
    (ap (λ (o : Option ℕ). o ∷ drop (suc p) t) (sym c.in-None.is)
    ∙ sym (drop-cons t p _ c.requires.inside))
