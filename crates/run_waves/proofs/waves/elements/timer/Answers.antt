use Rattle.std.proofs.Common.{List, ◌∙◌, ap, length, arith}
use Rattle.run_signal.specs.declared.tern.Tern.{Tern}
use Rattle.run_waves.specs.waves.Waves.{wave_at}
use Rattle.run_waves.proofs.waves_lemmas.ElementLaws.{rails_timed_now}
use Rattle.run_waves.proofs.waves.elements.timer.Goals as goal

pub returns-then-greatest-eq0-2 : goal.returns-then-greatest-eq0-2
returns-then-greatest-eq0-2 c = record {
  long = ap length c.in_ok-wave.ensures;
  values = λ t within. ap (λ (w : List Tern). wave_at w t) c.in_ok-wave.ensures
      ∙ rails_timed_now c.history_laws.ensures (wave_at c.args.a.now) c.args.pickup c.args.dropout t
      c.greatest.ensures.in_order.ordered c.greatest-then-greatest-eq0.ensures.in_order.ordered
      (omega (arith, c.greatest.ensures.greatest, c.if-greatest-eq0.true))
      (omega (arith, c.greatest-then-greatest-eq0.ensures.greatest, c.if-greatest-eq0-2.true));
}
