use Rattle.std.proofs.Common.{◌≡◌, ◌∙◌, ◌+◌, ◌<◌, ℕ, List, get_or, sym, ap, subst, arith}
use Rattle.std.proofs.lemmas.Grind.{get_or_default_zero}
use Rattle.model_line.specs.Parameters.{delay_param}
use Rattle.model_timing.specs.declared.step.Step.{Step}
use Rattle.model_timing.specs.Inside.{IsStepInside}
use Rattle.judge_verdict.specs.verdict.PairWavesOf.{pair_history}
use Rattle.judge_settle.specs.corner.Named.{rail_named}
use Rattle.judge_settle.specs.corner.Corner.{corner}
use Rattle.judge_settle.specs.corner.Steps.{AreStepsUpTo, IsNumberFrom, with_change}
use Rattle.judge_settle.proofs.corner_lemmas.StepLaws.{own_first, next_tick, lasts, goes_on}
use Rattle.judge_settle.proofs.corner.steps.push_steps.Goals as goal

pub changes-init : goal.changes-init
changes-init c =
    let line = c.args.line.now in
    let numbers : List ℕ = c.args.numbers.now in
    let delay : ℕ → ℕ → ℕ =
    (corner line (rail_named c.args.rail) (pair_history c.args.waves.now)).delay in
    let own : get_or numbers (delay_param line c.args.channel) 0 ≡ c.value-last.result =
    sym (c.value-last.ensures.value ∙ c.index-numbers-param.is
    ∙ get_or_default_zero numbers c.delay_of-param.result c.index-numbers-param.result
    (omega (arith, c.delay_of-param.ensures.within, c.requires.count))
    ∙ ap (λ (i : ℕ). get_or numbers i 0) c.delay_of-param.ensures.number) in
    record {
      late = omega arith;
      within = line.horizon_in_range.0;
      steps = c.requires.steps;
      last = λ r late.
          own_first line delay numbers c.settings_are_counted.ensures c.args.channel
          c.args.steps.now.items c.requires.channel c.requires.steps r late ∙ own;
    }

pub changes-preserved : goal.changes-preserved
changes-preserved c =
    let line = c.args.line.now in
    let numbers : List ℕ = c.args.numbers.now in
    let delay : ℕ → ℕ → ℕ =
    (corner line (rail_named c.args.rail) (pair_history c.args.waves.now)).delay in
    let param : ℕ = delay_param line c.args.channel in
    let t : ℕ = c.changes.t in
    let last : ℕ = c.changes.last in
    let n : ℕ = c.delay_from-lasting.result.delay in
    let until : ℕ = c.delay_from-lasting.result.until in
    let steps : List (Step ℕ) = c.changes.steps.items in
    let later : t < until = c.delay_from-lasting.ensures.later in
    let here : n ≡ delay c.args.channel t =
    c.delay_from-lasting.ensures.delay t (omega arith) later in
    let new : c.push_change.new.steps.items ≡ with_change steps param t last n =
    c.in_ok-push_change.ensures
    ∙ ap (λ (i : ℕ). with_change steps i t last n) c.delay_of-param.ensures.number in
    let inside : IsStepInside line (record { param = param; from = t; value = n }) = record {
      delay = c.delays_are_parameters.ensures.told line c.args.channel c.requires.channel;
      late = c.changes.invariant.late;
      early = c.changes-test.true;
      value = c.delay_from-lasting.ensures.within;
    } in
    let next : AreStepsUpTo line delay numbers c.args.channel (t + 1)
    (with_change steps param t last n) =
    next_tick line delay numbers c.settings_are_counted.ensures c.args.channel steps
    c.requires.channel t last n c.changes.invariant.steps c.changes.invariant.last here inside in
    let stays : IsNumberFrom (with_change steps param t last n) param (get_or numbers param 0)
    (t + 1) n =
    lasts line delay numbers c.settings_are_counted.ensures c.args.channel steps
    c.requires.channel t last n c.changes.invariant.steps c.changes.invariant.last here inside in
    record {
      late = omega (arith, later);
      within = omega (arith, c.delay_from-lasting.ensures.inside, c.requires.horizon);
      steps = subst
          (λ (s : List (Step ℕ)). AreStepsUpTo line delay numbers c.args.channel until s)
          (sym new)
          (goes_on line delay numbers c.settings_are_counted.ensures c.args.channel
          (with_change steps param t last n) c.requires.channel (t + 1) until n (omega (arith, later))
          next stays
          (λ r late early. c.delay_from-lasting.ensures.delay r (omega (arith, late)) early));
      last = subst (λ (s : List (Step ℕ)). IsNumberFrom s param (get_or numbers param 0) until n)
          (sym new) (λ r late. stays r (omega (arith, late, later)));
    }

pub returns : goal.returns
returns c =
    let line = c.args.line.now in
    let same : c.changes.t ≡ line.horizon =
    omega (arith, c.changes.invariant.within, c.changes-test.false) in
    subst (λ (t : ℕ). AreStepsUpTo line
    (corner line (rail_named c.args.rail) (pair_history c.args.waves.now)).delay c.args.numbers.now
    c.args.channel t c.changes.steps.items) same c.changes.invariant.steps
