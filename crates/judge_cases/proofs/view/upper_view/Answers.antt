use Rattle.std.proofs.Common.{◌≡◌, ◌∙◌, ℕ, ap, subst}
use Rattle.std.specs.Prelude.{slice_set}
use Rattle.model_history.specs.Rails.{Ends}
use Rattle.model_logic.specs.Boxes.{box_with}
use Rattle.run_signal.specs.Spans.{ends_of}
use Rattle.model_logic.specs.Boxes.{interval_of}
use Rattle.judge_cases.specs.Views.{Views}
use Rattle.judge_cases.proofs.ViewLaws.{half_views}
use Rattle.judge_cases.proofs.view.upper_view.Goals as goal

pub returns : goal.returns
returns c = λ box assumed views.
    let line = c.args.line.now in
    let view = c.args.view.now in
    let es = view.ends.items in
    let param = c.args.param in
    let mid = c.args.mid in
    let half = c.in_ok-half.half in
    let new : Ends = ends_of mid (interval_of es param).greatest in
    let is : c.new-new.result ≡ new =
    c.new-new.ensures ∙ ap (λ (n : ℕ). ends_of mid n)
    (c.greatest-greatest.ensures.greatest
    ∙ ap (λ (e : Ends). e.greatest) c.ends_at-ends.ensures.ends) in
    subst (λ (e : Ends). Views line (box_with box param (ends_of mid e.greatest)) assumed half)
    (views.same.numbers param c.requires.part.exists)
    (half_views c.delays_are_parameters.ensures line view half param new
    (c.in_ok-half.ensures.ends ∙ ap (slice_set es param) is) c.in_ok-half.ensures.assumed
    c.requires.part.number c.requires.view box assumed views)
