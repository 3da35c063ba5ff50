use Rattle.std.proofs.Common.{◌+◌, ◌-◌, List, length, ap, subst, arith, rules}
use Rattle.std.specs.Prelude.{not}
use Rattle.run_signal.specs.declared.tern.Tern.{Tern}
use Rattle.run_waves.specs.{waves.Waves.wave_at, waves.FirstTick.IsFirstOn}
use Rattle.run_waves.proofs.waves_lemmas.DelayLaws.{all_come_if}
use Rattle.run_waves.proofs.waves.received.must_come.Goals as goal

pub overflow_add-t : goal.overflow_add-t
overflow_add-t c = omega (arith, c.copy-keys.ensures.limited, ap length c.copy-keys.ensures.same)

pub returns-then-t-greatest : goal.returns-then-t-greatest
returns-then-t-greatest c =
    all_come_if (λ r. (wave_at c.args.key.now r).must) c.args.least c.args.greatest c.args.t
    c.first_from.result c.is_none.result c.is_none.ensures c.requires.ordered (omega arith)
    (subst (λ (w : List Tern). IsFirstOn (λ r. not (wave_at w r).must)
    (c.args.t - c.args.greatest) (c.args.t - c.args.least + 1) c.first_from.result)
    c.copy-keys.ensures.same
    (c.first_from.ensures (λ r. not r.must) (λ x on told. search rules)))
