-- Each element is what its facts say, it grows with its input, and only the ticks so far matter.
use Rattle.std.proofs.Common.{◌≡◌, ℕ, suc, ◌+◌, ◌-◌, ◌<◌, ◌≤◌, Bool, ◌&&◌, ◌||◌, refl, sym, ◌∙◌}
use Rattle.std.proofs.Common.{subst, arith, inl, inr, ⊎_elim, ◌⊎◌}
use Rattle.std.proofs.lemmas.Bool.{cases_lt}
use Rattle.std.proofs.lemmas.Bool.Decides.{Decides-like, Decides-and, Decides-or, Decides-below_and}
use Rattle.std.proofs.lemmas.Bool.Decides.{Decides-below_or}
use Rattle.std.specs.Prelude.{nat_le, IsTrue, Decides}
use Rattle.std.specs.Cmp.{both_ways}
use Rattle.model_history.specs.Elements.{every_below, some_below, hold, timed, sealed, Holds}
use Rattle.model_history.specs.Elements.{IsTimed}
use Rattle.model_history.specs.Elements.{IsSealed, SameUpTo, Below}
use Rattle.model_history.specs.TruthLaws.{Decides-true, Decides-le}

pub Decides-every : (q : ℕ → Bool) (Q : ℕ → Type 0) (n : ℕ) → ((k : ℕ) → Decides (q k) (Q k)) →
    Decides (every_below q n) ((k : ℕ) → k < n → Q k)
Decides-every q Q n each = Decides-below_and q Q (every_below q) each refl (λ _. refl) n

pub Decides-some : (q : ℕ → Bool) (Q : ℕ → Type 0) (n : ℕ) → ((k : ℕ) → Decides (q k) (Q k)) →
    Decides (some_below q n) ((k : ℕ) × (k < n) × Q k)
Decides-some q Q n each = Decides-below_or q Q (some_below q) each refl (λ _. refl) n

-- `hold` is what it says
pub Decides-hold : (u : ℕ → Bool) (p s : ℕ) → Decides (hold u p s) (Holds u p s)
unfolding hold
Decides-hold u p s =
    Decides-like _
    (λ both. record {
      late = both.0;
      on = λ r low high. let e : s - (s - r) ≡ r = omega arith in
          let i : s - r < suc p = omega arith in
          subst (λ (x : ℕ). IsTrue (u x)) e (both.1 (s - r) i);
    })
    (λ h. (
      h.late,
      λ k lt. let low : s ≤ (s - k) + p = (let l : p ≤ s = h.late in omega arith) in
          let high : s - k ≤ s = omega arith in h.on (s - k) low high,
    ))
    (Decides-and _ _ (Decides-le p s) (Decides-every (λ k. u (s - k)) (λ k. IsTrue (u (s - k)))
    (suc p) (λ k. Decides-true (u (s - k)))))

-- `timed` is what it says
pub Decides-timed : (u : ℕ → Bool) (p d t : ℕ) → Decides (timed u p d t) (IsTimed u p d t)
unfolding timed
Decides-timed u p d t =
    Decides-like _
    (λ (s, lt, both). record { s = s; past = omega arith; lasts = both.0; holds = both.1 })
    (λ h. let past : h.s ≤ t = h.past in (h.s, omega arith, (h.lasts, h.holds)))
    (Decides-some (λ s. nat_le t (s + d) && hold u p s) (λ s. (t ≤ s + d) × Holds u p s) (suc t)
    (λ s. Decides-and _ _ (Decides-le t (s + d)) (Decides-hold u p s)))

-- `sealed` is what it says
pub Decides-sealed : (set keep : ℕ → Bool) (t : ℕ) →
    Decides (sealed set keep t) (IsSealed set keep t)
unfolding sealed
Decides-sealed set keep t =
    Decides-like _
    (λ (s, lt, both). record {
      s = s;
      past = omega arith;
      starts = both.0;
      stays = λ r low high. ⊎_elim (λ le. absurd (omega arith)) (λ e. e) (both.1 r (omega arith));
    })
    (λ h. let past : h.s ≤ t = h.past in (
      h.s,
      omega arith,
      (
        h.starts,
        λ r lt. ⊎_elim (λ above. inr (h.stays r above (omega arith))) (λ le. inl le)
            (cases_lt h.s r),
      ),
    ))
    (Decides-some (λ s. set s && every_below (λ r. nat_le r s || keep r) (suc t))
    (λ s. IsTrue (set s) × ((r : ℕ) → r < suc t → (r ≤ s) ⊎ IsTrue (keep r))) (suc t)
    (λ s. Decides-and _ _ (Decides-true (set s))
    (Decides-every (λ r. nat_le r s || keep r) (λ r. (r ≤ s) ⊎ IsTrue (keep r)) (suc t)
    (λ r. Decides-or _ _ (Decides-le r s) (Decides-true (keep r))))))

-- ---- wherever the input is on there too, and with an easier pickup and a longer dropout, the
-- element is on

pub Holds-below : (u v : ℕ → Bool) (p q s : ℕ) → Below u v s → q ≤ p → Holds u p s → Holds v q s
Holds-below u v p q s under le h = let late : p ≤ s = h.late in
    record { late = omega arith; on = λ r low high. under r high (h.on r (omega arith) high) }

pub IsTimed-below : (u v : ℕ → Bool) (p q d e t : ℕ) → Below u v t → q ≤ p → d ≤ e →
    IsTimed u p d t → IsTimed v q e t
IsTimed-below u v p q d e t under le more h =
    let past : h.s ≤ t = h.past in
    let lasts : t ≤ h.s + d = h.lasts in
    record {
      s = h.s;
      past = past;
      lasts = omega arith;
      holds = Holds-below u v p q h.s (λ r le'. under r (omega arith)) le h.holds;
    }

pub timed-below : (u v : ℕ → Bool) (p q d e t : ℕ) → Below u v t → q ≤ p → d ≤ e →
    IsTrue (timed u p d t) → IsTrue (timed v q e t)
timed-below u v p q d e t under le more on = (Decides-timed v q e t).1
    (IsTimed-below u v p q d e t under le more ((Decides-timed u p d t).0 on))

pub sealed-below : (a b c e : ℕ → Bool) (t : ℕ) → Below a c t → Below b e t →
    IsTrue (sealed a b t) → IsTrue (sealed c e t)
sealed-below a b c e t set keep on =
    let h : IsSealed a b t = (Decides-sealed a b t).0 on in
    (Decides-sealed c e t).1 (record {
      s = h.s;
      past = h.past;
      starts = set h.s h.past h.starts;
      stays = λ r low high. keep r high (h.stays r low high);
    })

-- ---- only the ticks up to t matter

Below-same : (u v : ℕ → Bool) (t : ℕ) → SameUpTo u v t → Below u v t
Below-same u v t same r le on = sym (same r le) ∙ on

Below-same' : (u v : ℕ → Bool) (t : ℕ) → SameUpTo u v t → Below v u t
Below-same' u v t same r le on = same r le ∙ on

pub timed-same : (u v : ℕ → Bool) (p d t : ℕ) → SameUpTo u v t → timed u p d t ≡ timed v p d t
timed-same u v p d t same =
    both_ways (timed u p d t) (timed v p d t)
    (timed-below u v p p d d t (Below-same u v t same) (omega arith) (omega arith))
    (timed-below v u p p d d t (Below-same' u v t same) (omega arith) (omega arith))

pub sealed-same : (a b c e : ℕ → Bool) (t : ℕ) → SameUpTo a c t → SameUpTo b e t →
    sealed a b t ≡ sealed c e t
sealed-same a b c e t set keep =
    both_ways (sealed a b t) (sealed c e t)
    (sealed-below a b c e t (Below-same a c t set) (Below-same b e t keep))
    (sealed-below c e a b t (Below-same' a c t set) (Below-same' b e t keep))
