use Rattle.std.proofs.Common.{◌≡◌, ◌-◌, ◌≤◌, ℕ, List, length, ◌∙◌, ap, arith}
use Rattle.run_signal.specs.{declared.tern.Tern.Tern}
use Rattle.run_waves.specs.waves.Waves.{wave_at}
use Rattle.run_waves.proofs.waves_lemmas.GateLaws.{decided_there}
use Rattle.run_waves.proofs.waves_lemmas.WaveLaws.{ticks_more, longer, rails_along, new_length}
use Rattle.run_waves.proofs.waves.gates.merged.Goals as goal

pub stretch-first-requires : goal.stretch-first-requires
stretch-first-requires g c =
    omega (arith, ap length c.stretches.invariant.firsts, c.len-t.ensures.length)

pub stretch-second-requires : goal.stretch-second-requires
stretch-second-requires g c =
    omega (
      arith,
      ap length c.stretches.invariant.seconds,
      c.len-t.ensures.length,
      c.requires.long,
    )

pub stretches-preserved : goal.stretches-preserved
stretches-preserved g c =
    let a : List Tern = c.args.a.now in
    let b : List Tern = c.args.b.now in
    let wave : List Tern = c.stretches.wave in
    let end : ℕ = c.decided_until-end.result in
    let n : ℕ = end - c.len-t.result in
    let here : c.len-t.result ≡ length wave = c.len-t.ensures.length in
    let firsts : c.stretches.firsts ≡ a = c.stretches.invariant.firsts in
    let seconds : c.stretches.seconds ≡ b = c.stretches.invariant.seconds in
    let later = c.decided_until-end.ensures.later c.len-t.result c.stretch-first.ensures.later
    c.stretch-second.ensures.later in
    let within : end ≤ length a = c.decided_until-end.ensures.within (length a)
    (omega (arith, ap length firsts, c.stretch-first.ensures.inside))
    (omega (arith, ap length seconds, c.stretch-second.ensures.inside, c.requires.long)) in
    record {
      firsts = c.stretch-first.ensures.same ∙ firsts;
      seconds = c.stretch-second.ensures.same ∙ seconds;
      short = longer wave c.push.new.self c.op-level.result n (length a) c.in_ok-push.ensures
          (omega (arith, later, within));
      values = λ rails combines decides.
          ticks_more wave c.push.new.self c.op-level.result n
          (λ t. rails (wave_at a t) (wave_at b t))
          (c.stretches.invariant.values rails combines decides)
          c.in_ok-push.ensures
          (λ k low high.
          decided_there rails c.args.decides c.op-level.result c.stretch-first.result
          c.stretch-second.result (wave_at a k) (wave_at b k) k decides
          (combines _ _ _ c.op-level.ensures)
          (λ on. rails_along a c.stretches.firsts c.stretch-first.result.level c.len-t.result
          c.stretch-first.result.end k firsts c.stretch-first.ensures.level (omega arith) on)
          (λ on. rails_along b c.stretches.seconds c.stretch-second.result.level c.len-t.result
          c.stretch-second.result.end k seconds c.stretch-second.ensures.level (omega arith) on)
          (c.decided_until-end.ensures.decided k (omega (arith, later))));
    }

pub stretches-smaller : goal.stretches-smaller
stretches-smaller g c =
    let later = c.decided_until-end.ensures.later c.len-t.result c.stretch-first.ensures.later
    c.stretch-second.ensures.later in
    omega (
      arith,
      later,
      c.len-t.ensures.length,
      new_length c.stretches.wave c.push.new.self c.op-level.result
          (c.decided_until-end.result - c.len-t.result) c.in_ok-push.ensures,
    )
