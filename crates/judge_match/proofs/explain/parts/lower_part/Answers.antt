use Rattle.std.proofs.Common.{◌≡◌, ◌∙◌, ap, subst, sym, ℕ}
use Rattle.std.specs.Prelude.{IfOk}
use Rattle.model_history.specs.Rails.{Ends}
use Rattle.std.specs.Prelude.{slice_set}
use Rattle.judge_match.specs.{explain.Asked.IsPart, explain.Parts.lower_part}
use Rattle.judge_match.proofs.explain_lemmas.ListLaws.{ok_weaker}
use Rattle.judge_match.proofs.explain_lemmas.PartLaws.{lower_is}
use Rattle.judge_match.proofs.explain.parts.lower_part.Goals as goal

pub returns-clause-part : goal.returns-clause-part
returns-clause-part c =
    let line = c.args.line.now in
    let part = c.args.part.now in
    ok_weaker (λ side. side.items ≡ lower_part part c.args.param c.args.mid)
    (λ side. IsPart line side.items) c.with_interval.result
    (λ side is. subst (IsPart line) (sym is)
    (lower_is c.delays_are_parameters.ensures line part c.args.param c.args.mid c.requires.part
    c.requires.can))
    (subst (λ (e : Ends). IfOk c.with_interval.result
    (λ side. side.items ≡ slice_set part c.args.param e))
    (c.new-new.ensures ∙ ap (λ (n : ℕ). (record { least = n; greatest = c.args.mid })) (c.least-least.ensures.least ∙ ap (λ (e : Ends). e.least) c.interval-ends.ensures.ends)) c.with_interval.ensures)
