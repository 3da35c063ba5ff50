use Rattle.std.proofs.Common.{◌≡◌, ◌≢◌, ◌∙◌, ℕ, List, sym, ap, subst}
use Rattle.model_line.specs.NamesByNumber.{parameter_name}
use Rattle.model_timing.specs.{declared.step.Step.Step, Inside.IsStepInside}
use Rattle.base_text.specs.lines.AnswerLaws.{map_option}
use Rattle.cert_settle.specs.Grammar.{step_line, step_text}
use Rattle.cert_settle.proofs.LineLaws.{told_step}
use Rattle.cert_settle.proofs.step_line.step_at.Goals as goal

pub returns : goal.returns
returns c =
    let line = c.args.line.now in
    let param : ℕ = c.args.param in
    let from : ℕ = c.in_ok-from.from in
    let value : ℕ = c.in_ok-from.value in
    let bytes : List ℕ = c.args.bytes.now in
    let own : Step ℕ = record { param = param; from = from; value = value } in
    let here : bytes ≡ step_line (parameter_name line param) from value =
    subst (λ (n : List ℕ). bytes ≡ step_line n from value) c.param_name_at.ensures
    c.in_ok-from.ensures.1.1 in
    map_option (¬ (IsStepInside line own))
    ((step : Step ℕ) → step.param ≡ param → IsStepInside line step
    → bytes ≢ step_text line step)
    (λ step. (step ≡ own) × IsStepInside line step)
    (λ step. IsStepInside line step × (bytes ≡ step_text line step))
    c.step_inside.result
    (λ never step same inside is. never (subst (λ (s : Step ℕ). IsStepInside line s)
    (told_step c.laws_below.ensures line step param from value same inside c.requires
    c.in_ok-from.ensures.0 c.in_ok-from.ensures.1.0 (sym is ∙ here)) inside))
    (λ step is. (is.1, here ∙ sym (ap (λ (s : Step ℕ). step_text line s) is.0)))
    c.step_inside.ensures
