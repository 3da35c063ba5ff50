use Rattle.std.proofs.Common.{◌≡◌, ◌-◌, ◌<◌, ℕ, List, length, sym, ◌∙◌, ap, arith}
use Rattle.model_history.specs.Rails.{Rails, rails_delayed, single}
use Rattle.run_signal.specs.declared.tern.Tern.{Tern}
use Rattle.run_waves.specs.waves.Waves.{wave_at}
use Rattle.run_waves.proofs.waves_lemmas.WaveLaws.{ticks_more, longer}
use Rattle.run_waves.proofs.waves.received.raw_of_one.Goals as goal

pub arrived-run-requires-clause-known : goal.arrived-run-requires-clause-known
arrived-run-requires-clause-known c =
    omega (arith, ap length c.stretches.invariant.keys, c.len-t.ensures.length)

pub stretches-preserved : goal.stretches-preserved
stretches-preserved c =
    let key : List Tern = c.args.key.now in
    let wave : List Tern = c.stretches.wave in
    let level : Tern = c.arrived-run.result.level in
    let n : ℕ = c.min.result - c.len-t.result in
    let here : c.len-t.result ≡ length wave = c.len-t.ensures.length in
    let value : List Tern → ℕ → Rails =
    λ w k. rails_delayed (wave_at w) (single c.args.delay) k in
    let keys : c.stretches.keys ≡ key = c.stretches.invariant.keys in
    let later : c.len-t.result < c.arrived-run.result.end = c.arrived-run.ensures.later in
    record {
      keys = c.arrived-run.ensures.key ∙ keys;
      short = longer wave c.push.new.self level n (length key) c.in_ok-push.ensures
          (omega (arith, c.min.ensures, c.len-in-stretches-2.ensures.length));
      values = ticks_more wave c.push.new.self level n (value key)
          c.stretches.invariant.values c.in_ok-push.ensures
          (λ k low high. sym (ap (λ (w : List Tern). value w k) (sym keys)
          ∙ c.arrived-run.ensures.same k (omega arith) (omega (arith, c.min.ensures))));
    }
