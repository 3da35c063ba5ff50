use Rattle.std.proofs.Common.{◌≡◌, Some, sym, subst}
use Rattle.std.proofs.Math.Nat.{lt_of_lt_of_le}
use Rattle.std.specs.Prelude.{slice_get}
use Rattle.run_step.proofs.delays.renew_delays.Goals as goal

pub returns-then-t-delays-clause-set : goal.returns-then-t-delays-clause-set
returns-then-t-delays-clause-set g c = λ k d at.
    lt_of_lt_of_le c.if-t-delays.true (c.requires.until k d at)

pub returns-clause-delays : goal.returns-clause-delays
returns-clause-delays g c = c.set_delays.ensures.delays

pub returns-clause-set : goal.returns-clause-set
returns-clause-set g c = c.set_delays.ensures.set

pub returns-clause-until : goal.returns-clause-until
returns-clause-until g c = λ k d at.
    c.first_over-delays.ensures k d
    (subst (λ l. slice_get l k ≡ Some d) (sym c.deref.ensures.value) at)
