use Rattle.std.proofs.Common.{◌≡◌, ℕ, ◌<◌, List, length, get_or, ap, ◌∙◌, arith}
use Rattle.std.proofs.lemmas.List.{get_or_read}
use Rattle.model_line.specs.Parameters.{delay_param}
use Rattle.model_timing.specs.declared.step.Step.{Step}
use Rattle.model_timing.specs.{Timing.number_at, Choice.timing_choice}
use Rattle.judge_why.proofs.delay.delay_at.Goals as goal

pub returns : goal.returns
unfolding timing_choice
returns c =
    let line = c.args.play.now.compiled.line.now in
    let timing = c.args.play.now.timing.now in
    let t : ℕ = c.args.t in
    let param : ℕ = c.delay_of-param.result in
    let named : param ≡ delay_param line c.args.channel = c.delay_of-param.ensures.number in
    let values : List ℕ = c.values.result.now in
    let same : values ≡ timing.values = c.values.ensures in
    let there : param < length values =
    omega (arith, ap length same, c.requires.play.inside.count, c.delay_of-param.ensures.within) in
    let own : c.index-values-param.result ≡ get_or values param 0 =
    get_or_read values param c.index-values-param.result there c.index-values-param.is 0 in
    let owned : c.index-values-param.result ≡ get_or timing.values param 0 =
    own ∙ ap (λ (l : List ℕ). get_or l param 0) same in
    c.value.ensures.value ∙ c.number_by.ensures
    ∙ ap (λ (l : List (Step ℕ)). number_at l param t c.index-values-param.result) c.steps.ensures.same
    ∙ ap (λ (n : ℕ). number_at timing.steps param t n) owned
    ∙ ap (λ (p : ℕ). number_at timing.steps p t (get_or timing.values p 0)) named
