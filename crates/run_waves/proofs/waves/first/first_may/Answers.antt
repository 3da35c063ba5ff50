use Rattle.std.proofs.Common.{length, rules}
use Rattle.model_history.specs.Rails.{may_of}
use Rattle.run_waves.specs.waves.Waves.{wave_at}
use Rattle.run_waves.proofs.waves_lemmas.FirstTicks.{first_is, first_within}
use Rattle.run_waves.proofs.waves.first.first_may.Goals as goal

pub returns-clause-first : goal.returns-clause-first
returns-clause-first c =
    first_is (λ t. may_of (wave_at c.args.wave.now t)) (length c.args.wave.now) c.first_from.result
    (rw (c.cursor.ensures, c.len.ensures.length) at
    (c.first_from.ensures may_of (λ x on told. search rules)))

pub returns-clause-within : goal.returns-clause-within
returns-clause-within c =
    first_within (λ t. may_of (wave_at c.args.wave.now t)) (length c.args.wave.now)
    c.first_from.result
    (rw (c.cursor.ensures, c.len.ensures.length) at
    (c.first_from.ensures may_of (λ x on told. search rules)))
