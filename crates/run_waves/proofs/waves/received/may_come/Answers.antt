use Rattle.std.proofs.Common.{length, ap, arith, rules}
use Rattle.model_history.specs.Rails.{may_of}
use Rattle.run_waves.specs.{waves.Waves.wave_at}
use Rattle.run_waves.proofs.waves_lemmas.DelayLaws.{some_comes_if}
use Rattle.run_waves.proofs.waves.received.may_come.Goals as goal

pub overflow_add-t : goal.overflow_add-t
overflow_add-t c = omega (arith, c.copy.ensures.limited, ap length c.copy.ensures.same)

pub returns-then-t-least : goal.returns-then-t-least
returns-then-t-least c =
    rw c.is_some.ensures
    (some_comes_if (λ r. (wave_at c.args.key.now r).may) c.args.least c.args.greatest c.args.t
    c.first_from.result c.requires.ordered (omega arith)
    (rw (c.copy.ensures.same, c.saturating_sub-from.ensures) at
    (c.first_from.ensures may_of (λ x on told. search rules))))
