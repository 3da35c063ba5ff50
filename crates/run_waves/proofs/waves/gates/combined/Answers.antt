use Rattle.std.proofs.Common.{List, length, sym, ◌∙◌, ap, arith, refl}
use Rattle.model_history.specs.Rails.{Rails}
use Rattle.run_signal.specs.declared.tern.Tern.{Tern}
use Rattle.run_waves.specs.waves.Waves.{wave_at}
use Rattle.run_waves.proofs.waves.gates.combined.Goals as goal

pub returns-in_ok-wave : goal.returns-in_ok-wave
returns-in_ok-wave g c = λ rails combines decides leaves. record {
  long = ap length c.in_ok-wave.ensures ∙ c.requires.long;
  values = λ t within.
      ap (λ (w : List Tern). wave_at w t) c.in_ok-wave.ensures
      ∙ sym (leaves (wave_at c.args.b.now t)).0
      ∙ ap (λ (x : Rails). rails x (wave_at c.args.b.now t))
      (sym (c.if-is_all.ensures refl t within));
}

pub returns-in_ok-wave-2 : goal.returns-in_ok-wave-2
returns-in_ok-wave-2 g c = λ rails combines decides leaves. record {
  long = ap length c.in_ok-wave-2.ensures;
  values = λ t within.
      ap (λ (w : List Tern). wave_at w t) c.in_ok-wave-2.ensures
      ∙ sym (leaves (wave_at c.args.a.now t)).1
      ∙ ap (rails (wave_at c.args.a.now t))
      (sym (c.if-is_all-2.ensures refl t (omega (arith, c.requires.long))));
}

pub returns-else-is_all-2 : goal.returns-else-is_all-2
returns-else-is_all-2 g c = λ rails combines decides leaves.
    c.merged.ensures rails combines decides
