use Rattle.std.proofs.Common.{◌++◌, List, sym, ◌∙◌, ap, arith}
use Rattle.model_history.specs.Rails.{rails_delayed}
use Rattle.run_signal.specs.declared.tern.Tern.{Tern}
use Rattle.run_waves.specs.waves.Waves.{wave_at}
use Rattle.run_waves.proofs.waves_lemmas.WaveLaws.{wave_at-front}
use Rattle.run_waves.proofs.waves.received.raw_at.Goals as goal

pub returns-clause-longer : goal.returns-clause-longer
returns-clause-longer c = λ more.
    let key = c.args.key.now in
    c.delays_read_earlier_ticks.ensures.rails (wave_at (key ++ more)) (wave_at key)
    (λ _. c.args.delay) c.args.t
    (λ r early _. wave_at-front key more r (omega (arith, c.requires.later, c.requires.known)))
    ∙ ap (λ (w : List Tern). rails_delayed (wave_at w) c.args.delay c.args.t) (sym c.cursor.ensures)
    ∙ sym c.received.ensures
