use Rattle.std.proofs.Common.{◌≡◌, ◌-◌, ℕ, List, length, sym, ◌∙◌, ap, arith}
use Rattle.model_history.specs.Rails.{rails_not}
use Rattle.run_signal.specs.declared.tern.Tern.{Tern}
use Rattle.run_waves.specs.waves.Waves.{wave_at}
use Rattle.run_waves.proofs.waves_lemmas.WaveLaws.{ticks_more, longer, rails_along}
use Rattle.run_waves.proofs.waves.gates.not.Goals as goal

pub stretch-input-requires : goal.stretch-input-requires
stretch-input-requires c =
    omega (arith, ap length c.stretches.invariant.inputs, c.len-t.ensures.length)

pub stretches-preserved : goal.stretches-preserved
stretches-preserved c =
    let a : List Tern = c.args.a.now in
    let wave : List Tern = c.stretches.wave in
    let n : ℕ = c.stretch-input.result.end - c.len-t.result in
    let here : c.len-t.result ≡ length wave = c.len-t.ensures.length in
    let inputs : c.stretches.inputs ≡ a = c.stretches.invariant.inputs in
    record {
      inputs = c.stretch-input.ensures.same ∙ inputs;
      short = longer wave c.push.new.self c.not.result n (length a) c.in_ok-push.ensures
          (omega (arith, ap length inputs));
      values = ticks_more wave c.push.new.self c.not.result n (λ t. rails_not (wave_at a t))
          c.stretches.invariant.values c.in_ok-push.ensures
          (λ k low high. c.not.ensures 0 (omega arith)
          ∙ ap rails_not (sym (rails_along a c.stretches.inputs c.stretch-input.result.level c.len-t.result
          c.stretch-input.result.end k inputs c.stretch-input.ensures.level (omega arith) (omega arith))));
    }
