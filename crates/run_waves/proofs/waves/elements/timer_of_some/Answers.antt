use Rattle.std.proofs.Common.{◌≡◌, ◌+◌, ℕ, List, length, sym, ◌∙◌, ap, arith, subst}
use Rattle.model_history.specs.{Rails.Rails, Rails.Ends, Rails.rails_timed, Recorded.first_ticks}
use Rattle.run_signal.specs.{declared.tern.Tern.Tern, Terns.tern_rails}
use Rattle.run_signal.specs.{Cells.RailsStandFor, Stretches.StaysAt}
use Rattle.run_waves.specs.waves.Waves.{wave_at}
use Rattle.run_waves.proofs.waves_lemmas.WaveLaws.{ticks_more, longer, rails_along, new_length}
use Rattle.run_waves.proofs.waves_lemmas.ElementLaws.{timed_in}
use Rattle.run_waves.proofs.waves.elements.timer_of_some.Goals as goal

pub stretch-input-requires : goal.stretch-input-requires
stretch-input-requires c =
    omega (arith, ap length c.stretches.invariant.inputs, c.len-t.ensures.length)

pub first_answer-answer-requires-clause-some : goal.first_answer-answer-requires-clause-some
first_answer-answer-requires-clause-some c =
    let steady = c.steady_within-count.ensures.steady c.args.pickup c.args.dropout
    (λ _. first_ticks (wave_at c.args.a.now) (length c.stretches.wave))
    (λ _ _. c.stretches.invariant.stand) in
    omega (arith, steady.some, c.steady_within-count.ensures.within, c.len-t.ensures.length)

pub push-requires-clause-some : goal.push-requires-clause-some
push-requires-clause-some c =
    let steady = c.steady_within-count.ensures.steady c.args.pickup c.args.dropout
    (λ _. first_ticks (wave_at c.args.a.now) (length c.stretches.wave))
    (λ _ _. c.stretches.invariant.stand) in
    omega (arith, steady.some, c.steady_within-count.ensures.within, c.len-t.ensures.length)

pub stretches-smaller : goal.stretches-smaller
stretches-smaller c =
    let steady = c.steady_within-count.ensures.steady c.args.pickup c.args.dropout
    (λ _. first_ticks (wave_at c.args.a.now) (length c.stretches.wave))
    (λ _ _. c.stretches.invariant.stand) in
    omega (
      arith,
      steady.some,
      c.steady_within-count.ensures.within,
      c.len-t.ensures.length,
      new_length c.stretches.wave c.push.new.self c.first_answer-answer.result c.steady_within-count.result
          c.in_ok-push.ensures,
    )

pub stretches-preserved : goal.stretches-preserved
stretches-preserved c =
    let u : ℕ → Rails = wave_at c.args.a.now in
    let p : Ends = c.args.pickup in
    let d : Ends = c.args.dropout in
    let wave : List Tern = c.stretches.wave in
    let new : List Tern = c.push.new.self in
    let answer : Tern = c.first_answer-answer.result in
    let n : ℕ = length wave in
    let m : ℕ = c.steady_within-count.result in
    let here : c.len-t.result ≡ length wave = c.len-t.ensures.length in
    let x : Rails = tern_rails c.stretch-input.result.level in
    let inputs : c.stretches.inputs ≡ c.args.a.now = c.stretches.invariant.inputs in
    let stays : StaysAt u x n m =
    λ k low high. rails_along c.args.a.now c.stretches.inputs c.stretch-input.result.level
    c.len-t.result c.stretch-input.result.end k inputs c.stretch-input.ensures.level (omega arith)
    (omega (arith, c.steady_within-count.ensures.within)) in
    let steady = c.steady_within-count.ensures.steady p d (λ _. first_ticks u n)
    (λ _ _. c.stretches.invariant.stand) in
    let ticks : first_ticks u (n + m) ≡ first_ticks u (length new) =
    ap (first_ticks u) (sym (new_length wave new answer m c.in_ok-push.ensures)) in
    let P : List Rails → Type 0 =
    λ l. RailsStandFor c.first_answer-answer.new.cells.must c.first_answer-answer.new.cells.may
    p d l in
    record {
      inputs = c.stretch-input.ensures.same ∙ inputs;
      short = longer wave new answer m (length c.args.a.now) c.in_ok-push.ensures
          (omega (arith, c.steady_within-count.ensures.within, ap length inputs));
      values = ticks_more wave new answer m (rails_timed u p d) c.stretches.invariant.values
          c.in_ok-push.ensures
          (timed_in c.history_laws.ensures c.elements_stay_in_a_stretch.ensures u p d x
          (tern_rails answer) n m stays
          (λ i inside. steady.same 0 i (omega arith) (omega (arith, c.steady_within-count.ensures.within)))
          (c.first_answer-answer.ensures.timed p d 0 (first_ticks u n) (omega arith)
          c.stretches.invariant.stand));
      stand = subst P (c.elements_stay_in_a_stretch.ensures.recorded u x n m stays ∙ ticks)
          (c.first_answer-answer.ensures.stands p d 0 (first_ticks u n) (omega arith)
          c.stretches.invariant.stand);
    }
