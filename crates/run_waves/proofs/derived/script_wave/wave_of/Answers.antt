use Rattle.std.proofs.Common.{◌≡◌, ◌≤◌, ◌<◌, ◌-◌, ◌+◌, ℕ, Bool, List, length, arith, ap, sym, ◌∙◌}
use Rattle.std.proofs.Common.{subst}
use Rattle.std.specs.List.{All}
use Rattle.model_history.specs.Rails.{Rails, both}
use Rattle.run_signal.specs.declared.tern.Tern.{Tern}
use Rattle.model_line.specs.declared.script.SeenSpan.{SeenSpan}
use Rattle.run_waves.specs.waves.Waves.{IsWaveOf}
use Rattle.run_waves.specs.derived.Stretches.{ShowsAlike, holds}
use Rattle.run_waves.specs.waves.LevelLaws.{at_none}
use Rattle.run_waves.proofs.derived_lemmas.StretchLaws.{holds_alike}
use Rattle.run_waves.proofs.derived.script_wave.wave_of.Goals as goal

pub stretches-init : goal.stretches-init
stretches-init c = record {
  short = omega (arith, ap length c.new-wave.ensures);
  values = at_none c.new-wave.result _ c.new-wave.ensures;
}

pub stretches-preserved : goal.stretches-preserved
stretches-preserved c =
    let spans : List SeenSpan = c.args.script.now.spans.items in
    let value : ℕ → Rails = λ k. both (holds spans c.args.what k) in
    let wave : List Tern = c.stretches.wave in
    let t : ℕ = c.len-t.result in
    let end : ℕ = c.alike_until-end.result in
    let here : t ≡ length wave = c.len-t.ensures.length in
    let later : t < end = c.alike_until-end.ensures.later in
    let inside : end ≤ c.args.horizon = c.alike_until-end.ensures.inside in
    let Q : List SeenSpan → Type 0 = λ l. All (ShowsAlike c.args.what t end) l in
    let alike : Q spans = subst Q c.as_slice.ensures.value c.alike_until-end.ensures.alike in
    let long : length c.push.new.self ≡ length wave + (end - t) =
    c.waves_grow.ensures.long wave c.push.new.self c.known.result (end - t)
    c.in_ok-push.ensures in
    record {
      short = omega (arith, long, here, later, inside);
      values = c.waves_grow.ensures.ticks wave c.push.new.self c.known.result (end - t) value
          c.stretches.invariant.values c.in_ok-push.ensures
          (λ k low high. c.known.ensures 0 (omega arith)
          ∙ ap (λ (b : Bool). both b) (c.holds.ensures
          ∙ sym (holds_alike spans c.args.what t end k alike (omega (arith, low, here))
          (omega (arith, high, here, later)))));
    }

pub returns : goal.returns
returns c =
    let spans : List SeenSpan = c.args.script.now.spans.items in
    let value : ℕ → Rails = λ k. both (holds spans c.args.what k) in
    let P : ℕ → Type 0 = λ n. IsWaveOf c.stretches.wave n value in
    let all : length c.stretches.wave ≡ c.args.horizon = omega (arith, c.stretches.invariant.short) in
    subst P all c.stretches.invariant.values
