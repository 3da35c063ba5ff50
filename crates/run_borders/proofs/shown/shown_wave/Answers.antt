use Rattle.std.proofs.Common.{◌≡◌, ◌≤◌, ◌<◌, ◌-◌, ◌+◌, ℕ, length, arith, ap, sym, ◌∙◌, subst}
use Rattle.run_signal.specs.Terns.{tern_rails}
use Rattle.run_waves.specs.{waves.LevelLaws.at_none, waves.Waves.IsWaveOf}
use Rattle.run_step.specs.InputLaws.{script_fewer}
use Rattle.run_borders.specs.LooseWaves.{shown_rails}
use Rattle.run_borders.proofs.WaveLaws.{rails_with, shown_sound, shown_keeps}
use Rattle.run_borders.proofs.shown.shown_wave.Goals as goal

pub stretches-init : goal.stretches-init
stretches-init c = record {
  short = omega (arith, ap length c.new-wave.ensures);
  values = at_none c.new-wave.result (shown_rails c.args.run.now c.args.what) c.new-wave.ensures;
}

pub stretches-preserved : goal.stretches-preserved
stretches-preserved c =
    let run = c.args.run.now in
    let what = c.args.what in
    let wave = c.stretches.wave in
    let t : ℕ = c.len-t.result in
    let n : ℕ = c.lesser-count.result in
    let here : t ≡ length wave = c.len-t.ensures.length in
    let less = c.lesser-count.ensures in
    let inside : n ≤ c.args.horizon - t = less.second in
    let more : t < c.args.horizon = omega (arith, here, c.len.ensures.length, c.stretches-test.true) in
    let level : tern_rails c.from_rails.result ≡ shown_rails run what t =
    rails_with c.holds-must.result c.holds-may.result (shown_rails run what t).must
    (shown_rails run what t).may (tern_rails c.from_rails.result) c.holds-must.ensures
    c.holds-may.ensures c.from_rails.ensures (shown_sound run c.requires.run what t) in
    let long : length c.push.new.self ≡ length wave + n =
    c.waves_grow.ensures.long wave c.push.new.self c.from_rails.result n c.in_ok-push.ensures in
    record {
      short = omega (arith, long, here, inside, more);
      values = c.waves_grow.ensures.ticks wave c.push.new.self c.from_rails.result n (shown_rails run what)
          c.stretches.invariant.values c.in_ok-push.ensures
          (λ k low high. level
          ∙ sym (shown_keeps run what t n
          (script_fewer run.certain.now.spans.items t n c.both_stay.result less.first
          c.both_stay.ensures.certain)
          (script_fewer run.perhaps.now.spans.items t n c.both_stay.result less.first
          c.both_stay.ensures.perhaps)
          k (omega (arith, low, here)) (omega (arith, high, here))));
    }

pub returns : goal.returns
returns c =
    let P : ℕ → Type 0 = λ n. IsWaveOf c.stretches.wave n (shown_rails c.args.run.now c.args.what) in
    let all : length c.stretches.wave ≡ c.args.horizon =
    omega (arith, c.stretches.invariant.short, c.stretches-test.false, c.len.ensures.length) in
    subst P all c.stretches.invariant.values
