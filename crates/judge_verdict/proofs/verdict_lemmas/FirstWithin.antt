-- Whether a signal is on below a tick, by the first tick at which it is on.
use Rattle.std.proofs.Common.{◌≡◌, ◌<◌, ℕ, Bool, false, sym, ◌∙◌, arith, ⊎_elim}
use Rattle.std.proofs.lemmas.Bool.{cases_lt, lt-ltb, le-ltb, false_from_ne_true}
use Rattle.std.specs.Prelude.{nat_lt, IsTrue, IsFalse}
use Rattle.model_history.specs.TruthLaws.{not_both}
use Rattle.model_history.specs.{Elements.some_below, Laws.TestsAreTheirFacts}

module _ (facts : TestsAreTheirFacts) (u : ℕ → Bool) (ticks : ℕ) where
  -- off at each tick
  pub off_below : ((t : ℕ) → t < ticks → IsFalse (u t)) → false ≡ some_below u ticks
  off_below off =
      sym (false_from_ne_true (some_below u ticks)
      (λ on. let (t, early, here) = (facts.some u ticks).0 on in not_both (u t) (off t early) here))

  -- on first at t
  pub on_first : (t : ℕ) → IsTrue (u t) → ((r : ℕ) → r < t → IsFalse (u r))
      → nat_lt t ticks ≡ some_below u ticks
  on_first t on before =
      ⊎_elim
      (λ inside. lt-ltb t ticks inside ∙ sym ((facts.some u ticks).1 (t, inside, on)))
      (λ past. le-ltb t ticks past ∙ off_below (λ r early. before r (omega arith)))
      (cases_lt t ticks)
