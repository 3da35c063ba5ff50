-- From what a plain function has looked at to the truth value of the definition.
use Rattle.std.proofs.Common.{◌≡◌, ℕ, ◌+◌, ◌-◌, ◌<◌, ◌≤◌, Bool, true, false, sym, ◌∙◌, subst, arith}
use Rattle.std.proofs.Common.{⊎_elim}
use Rattle.std.proofs.lemmas.Bool.{lt-leb, cases_lt, false≢true}
use Rattle.std.proofs.lemmas.Bool.Decides.{Decides-like, same_from_decides}
use Rattle.std.specs.Prelude.{nat_le, IsTrue, Decides}
use Rattle.model_history.specs.Elements.{hold, timed, sealed, delayed, Holds, IsTimed, IsSealed}
use Rattle.model_history.proofs.ElementLaws.{Decides-hold, Decides-timed, Decides-sealed}
use Rattle.model_history.proofs.DelayLaws.{delayed_before}

-- u is on at each tick from the first to the last
abbrev pub OnThroughout : (ℕ → Bool) → ℕ → ℕ → Type 0
OnThroughout u first last = (r : ℕ) → first ≤ r → r ≤ last → IsTrue (u r)

-- what decides a fact that implies the element's, and is implied by it, is the element
from_fact : (b e : Bool) (P Q : Type 0) → Decides b P → Decides e Q → (P → Q) → (Q → P) → b ≡ e
from_fact b e P Q db de f g = same_from_decides b e (Decides-like b f g db) de

pub hold_there : (u : ℕ → Bool) (p s : ℕ) (b : Bool) → p ≤ s →
    Decides b (OnThroughout u (s - p) s) → b ≡ hold u p s
hold_there u p s b le h =
    from_fact b (hold u p s) (OnThroughout u (s - p) s) (Holds u p s) h (Decides-hold u p s)
    (λ all. record { late = le; on = λ r low high. all r (omega arith) high })
    (λ holds r low high. holds.on r (omega arith) high)

pub hold_early : (u : ℕ → Bool) (p s : ℕ) → s < p → nat_le p s ≡ hold u p s
hold_early u p s lt =
    lt-leb p s lt ∙ from_fact false (hold u p s) ⊥ (Holds u p s) (false≢true, λ no. absurd no)
    (Decides-hold u p s)
    (λ no. absurd no) (λ holds. let le : p ≤ s = holds.late in absurd (omega arith))

pub timed_on : (u : ℕ → Bool) (p d s t : ℕ) → s ≤ t → t ≤ s + d → true ≡ hold u p s →
    true ≡ timed u p d t
timed_on u p d s t past lasts on =
    sym ((Decides-timed u p d t).1 (record {
      s = s;
      past = past;
      lasts = lasts;
      holds = (Decides-hold u p s).0 (sym on);
    }))

pub timed_off : (u : ℕ → Bool) (p d t : ℕ) → ((s : ℕ) → s ≤ t → t ≤ s + d → Holds u p s → ⊥) →
    false ≡ timed u p d t
timed_off u p d t none =
    from_fact false (timed u p d t) ⊥ (IsTimed u p d t) (false≢true, λ no. absurd no)
    (Decides-timed u p d t)
    (λ no. absurd no) (λ on. none on.s on.past on.lasts on.holds)

-- one more tick that has no hold
pub no_hold_more : (u : ℕ → Bool) (p first n : ℕ) →
    ((s : ℕ) → first ≤ s → s < n → Holds u p s → ⊥) → false ≡ hold u p n → (s : ℕ) → first ≤ s →
    s < n + 1 → Holds u p s → ⊥
no_hold_more u p first n before off s low lt holds = ⊎_elim
    (λ earlier. before s low earlier holds)
    (λ last. let e : s ≡ n = omega arith in
    false≢true (off ∙ (Decides-hold u p n).1 (subst (λ (x : ℕ). Holds u p x) e holds)))
    (cases_lt s n)

pub sealed_on : (set keep : ℕ → Bool) (s t : ℕ) → s ≤ t → IsTrue (set s) →
    OnThroughout keep (s + 1) t → true ≡ sealed set keep t
sealed_on set keep s t past starts stays =
    sym ((Decides-sealed set keep t).1 (record {
      s = s;
      past = past;
      starts = starts;
      stays = λ r low high. stays r (omega arith) high;
    }))

pub sealed_off : (set keep : ℕ → Bool) (t : ℕ) →
    ((s : ℕ) → s < t + 1 → IsTrue (set s) → OnThroughout keep (s + 1) t → ⊥) →
    false ≡ sealed set keep t
sealed_off set keep t none =
    from_fact false (sealed set keep t) ⊥ (IsSealed set keep t) (false≢true, λ no. absurd no)
    (Decides-sealed set keep t)
    (λ no. absurd no) (λ on. let past : on.s ≤ t = on.past in
    none on.s (omega arith) on.starts (λ r low high. on.stays r (omega arith) high))

pub delayed_early : (u : ℕ → Bool) (c t : ℕ) → t < c → nat_le c t ≡ delayed u c t
delayed_early u c t lt = lt-leb c t lt ∙ sym (delayed_before u c t lt)
