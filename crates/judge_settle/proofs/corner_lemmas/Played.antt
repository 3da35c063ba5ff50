-- What a run at a timing shows of an obligation.
use Rattle.std.proofs.Common.{ℕ, ◌<◌, Bool, true, false, not, refl}
use Rattle.std.specs.Prelude.{IsTrue, IsFalse}
use Rattle.std.proofs.lemmas.Bool.{false_from_ne_true}
use Rattle.judge_settle.specs.corner.Failing.{SomeTickIsOn}

never_both : (b : Bool) → IsTrue (not b) → IsTrue b → ⊥
never_both true off on = absurd (cc)
never_both false off on = absurd (cc)

-- off at each tick, where it is told that it is on at none
pub off_when : (on : ℕ → Bool) (ticks : ℕ) (b : Bool) → (SomeTickIsOn on ticks → IsTrue b)
    → IsTrue (not b) → (t : ℕ) → t < ticks → IsFalse (on t)
off_when on ticks b shows off t lt =
    false_from_ne_true (on t) (λ is. never_both b off (shows (t, lt, is)))

pub same_way : (b : Bool) → IsFalse (not b) → IsTrue b
same_way true e = refl
same_way false e = absurd (cc)
