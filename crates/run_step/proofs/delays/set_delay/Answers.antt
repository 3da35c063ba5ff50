use Rattle.std.proofs.Common.{◌≡◌, ℕ, ◌+◌, ◌<◌, ◌≤◌, Some, sym, ◌∙◌, ap, arith}
use Rattle.std.proofs.lemmas.Option.{slice_get-get_or}
use Rattle.std.specs.Prelude.{slice_get, option_map, get_or}
use Rattle.model_timing.specs.Timing.{number_at}
use Rattle.run_step.specs.LaneBox.{ends_in}
use Rattle.run_step.specs.InputLaws.{number_keeps}
use Rattle.run_step.proofs.delays.set_delay.Goals as goal

some_most : 1 ≤ 4000
some_most = omega arith

-- a stretch of one tick at least ends later
ends_later : (t n : ℕ) → 1 ≤ n → t < t + n
ends_later t n some = omega (arith, some)

pub returns-then-t-delay-clause-stands : goal.returns-then-t-delay-clause-stands
returns-then-t-delay-clause-stands g c = c.requires.stands

pub returns-clause-set : goal.returns-clause-set
returns-clause-set g c =
    ends_later c.args.t c.lesser.result
    (c.lesser.ensures.some c.steps_stay-stays.ensures.some some_most)

pub returns-clause-stands : goal.returns-clause-stands
returns-clause-stands g c =
    let spans = c.args.run.now.spans.now in
    let steps = c.args.run.now.steps.now in
    let i = c.args.delay.now.param in
    let own = get_or spans i c.index-run-delay.result in
    let ends = g.V.Signal.signal.ends in
    let less : c.lesser.result ≤ c.steps_stay-stays.result = c.lesser.ensures.first in
    let at : slice_get spans i ≡ Some own =
    slice_get-get_or spans i c.index-run-delay.result c.requires.exists in
    record {
      holds = λ lane r low high.
          ap (λ s. ends s lane) c.value_at-span.ensures
          ∙ ap (λ s. ends s lane) (sym (number_keeps steps i c.args.t c.steps_stay-stays.result own
          c.steps_stay-stays.ensures.keeps r low (omega (arith, high, less))))
          ∙ ap (λ o. ends_in ends lane (option_map (number_at steps i r) o)) (sym at);
      soonest = λ early. record {
        some = c.soonest-delay.ensures.some;
        limited = c.soonest-delay.ensures.limited;
        before = c.soonest-delay.ensures.before;
      };
    }
