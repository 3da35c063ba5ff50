use Rattle.std.proofs.Common.{◌≡◌, ◌-◌, ◌<◌, ℕ, List, length, sym, ◌∙◌, ap, arith}
use Rattle.model_history.specs.Rails.{Rails, rails_delayed}
use Rattle.run_signal.specs.declared.tern.Tern.{Tern}
use Rattle.run_waves.specs.waves.Waves.{wave_at}
use Rattle.run_waves.proofs.waves_lemmas.WaveLaws.{ticks_more, longer}
use Rattle.run_waves.proofs.waves.received.raw_of_some.Goals as goal

pub steady_until-requires-clause-one : goal.steady_until-requires-clause-one
steady_until-requires-clause-one c =
    c.stretches.invariant.oldest ∙ sym c.stretches.invariant.newest

pub steady_until-requires-clause-known : goal.steady_until-requires-clause-known
steady_until-requires-clause-known c =
    omega (arith, ap length c.stretches.invariant.newest, c.len-t.ensures.length)

pub received-level-requires-clause-known : goal.received-level-requires-clause-known
received-level-requires-clause-known c =
    omega (
      arith,
      ap length c.steady_until.ensures.oldest,
      ap length c.stretches.invariant.oldest,
      c.len-t.ensures.length,
    )

pub stretches-preserved : goal.stretches-preserved
stretches-preserved c =
    let key : List Tern = c.args.key.now in
    let wave : List Tern = c.stretches.wave in
    let level : Tern = c.received-level.result in
    let n : ℕ = c.min-end.result - c.len-t.result in
    let here : c.len-t.result ≡ length wave = c.len-t.ensures.length in
    let value : ℕ → Rails = rails_delayed (wave_at key) c.args.delay in
    let newest : c.stretches.newest ≡ key = c.stretches.invariant.newest in
    let oldest : c.steady_until.new.oldest ≡ key =
    c.steady_until.ensures.oldest ∙ c.stretches.invariant.oldest in
    let later : c.len-t.result < c.steady_until.result = c.steady_until.ensures.later in
    record {
      newest = c.steady_until.ensures.newest ∙ newest;
      oldest = oldest;
      short = longer wave c.push.new.self level n (length key) c.in_ok-push.ensures
          (omega (arith, c.min-end.ensures, c.len-in-stretches-2.ensures.length));
      values = ticks_more wave c.push.new.self level n value
          c.stretches.invariant.values c.in_ok-push.ensures
          (λ k low high. c.received-level.ensures
          ∙ ap (λ (w : List Tern). rails_delayed (wave_at w) c.args.delay c.len-t.result) oldest
          ∙ sym (ap (λ (w : List Tern). rails_delayed (wave_at w) c.args.delay k) (sym newest)
          ∙ c.steady_until.ensures.same k (omega arith) (omega (arith, c.min-end.ensures))
          ∙ ap (λ (w : List Tern). rails_delayed (wave_at w) c.args.delay c.len-t.result) newest));
    }
