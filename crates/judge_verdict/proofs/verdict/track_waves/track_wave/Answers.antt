use Rattle.std.proofs.Common.{◌≡◌, ◌-◌, ◌<◌, ℕ, List, length, sym, ◌∙◌, arith}
use Rattle.run_signal.specs.declared.tern.Tern.{Tern}
use Rattle.run_waves.specs.waves.Waves.{wave_at}
use Rattle.run_waves.specs.waves.WaveLaws.{wave_at-level}
use Rattle.judge_verdict.proofs.verdict.track_waves.track_wave.Goals as goal

pub stretches-preserved : goal.stretches-preserved
stretches-preserved c =
    let track : List Tern = c.args.track.now.keys in
    let wave : List Tern = c.stretches.wave in
    let t : ℕ = c.len-t.result in
    let n : ℕ = c.stays_until.result - t in
    let here : t ≡ length wave = c.len-t.ensures.length in
    let later : t < c.stays_until.result = c.stays_until.ensures.later in
    let stays = c.stays_until.ensures.stays 0 (omega arith) in
    record {
      short = omega (
        arith,
        c.waves_grow.ensures.long wave c.push.new.self c.at.result n c.in_ok-push.ensures,
        c.stays_until.ensures.limited,
      );
      values = c.waves_grow.ensures.ticks wave c.push.new.self c.at.result n (wave_at track)
          c.stretches.invariant.values c.in_ok-push.ensures
          (λ k low high. sym (wave_at-level track c.at.result t c.at.ensures)
          ∙ sym (stays.same k (omega arith) (omega arith)));
    }
