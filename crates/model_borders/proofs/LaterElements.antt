-- Timed elements and seals over signals that come so many ticks later.
use Rattle.std.proofs.Common.{◌≡◌, ◌+◌, ◌-◌, ◌<◌, ◌≤◌, ℕ, Bool, true, false, arith, sym, subst, refl}
use Rattle.std.proofs.Common.{◌∙◌, ⊎_elim}
use Rattle.std.proofs.lemmas.Bool.{cases_lt}
use Rattle.std.proofs.lemmas.Bool.Decides.{Decides-like, same_from_decides}
use Rattle.std.specs.Prelude.{IsTrue, Decides}
use Rattle.model_history.specs.{Laws.HistoryLaws, TruthLaws.not_both, TruthLaws.on_at}
use Rattle.model_history.specs.Elements.{timed, sealed, Holds, IsTimed, IsSealed}

-- v is u, d ticks later, at each tick up to t + d, and off before
pub record Comes_later (d : ℕ) (u v : ℕ → Bool) (t : ℕ) : Type 0 where
  pub before : (r : ℕ) → r < d → v r ≡ false
  pub after : (r : ℕ) → r ≤ t → v (r + d) ≡ u r

-- what is on at a late tick is on d ticks before
module _ (d t : ℕ) (u v : ℕ → Bool) (after : (r : ℕ) → r ≤ t → v (r + d) ≡ u r) where
  back : (q : ℕ) → d ≤ q → q ≤ t + d → IsTrue (v q) → IsTrue (u (q - d))
  back q low high on =
      let e : q ≡ q - d + d = omega arith in
      sym (after (q - d) (omega arith)) ∙ on_at v q (q - d + d) e on

  forth : (q : ℕ) → d ≤ q → q ≤ t + d → IsTrue (u (q - d)) → IsTrue (v q)
  forth q low high on =
      let e : q - d + d ≡ q = omega arith in
      on_at v (q - d + d) q e (after (q - d) (omega arith) ∙ on)

module _ (d t : ℕ) (u v : ℕ → Bool) (late : Comes_later d u v t) where
  -- nothing is on before d
  never : (q : ℕ) → IsTrue (v q) → d ≤ q
  never q on =
      ⊎_elim (λ lt. absurd (not_both (v q) (late.before q lt) on)) (λ le. le) (cases_lt q d)

  holds_back : (p s : ℕ) → s ≤ t + d → Holds v p s → (d ≤ s) × Holds u p (s - d)
  holds_back p s past h =
      let low : p ≤ s = h.late in
      let first : d ≤ s - p = never (s - p) (h.on (s - p) (omega arith) (omega arith)) in (
        omega arith,
        record {
          late = omega arith;
          on = λ r from to.
              let e : r + d - d ≡ r = omega arith in
              on_at u (r + d - d) r e
              (back d t u v late.after (r + d) (omega arith) (omega arith)
              (h.on (r + d) (omega arith) (omega arith)));
        },
      )

  holds_forth : (p s : ℕ) → s ≤ t → Holds u p s → Holds v p (s + d)
  holds_forth p s past h =
      let low : p ≤ s = h.late in
      record {
        late = omega arith;
        on = λ r from to.
            forth d t u v late.after r (omega arith) (omega arith)
            (h.on (r - d) (omega arith) (omega arith));
      }

  timed_back : (p e : ℕ) → IsTimed v p e (t + d) → IsTimed u p e t
  timed_back p e h =
      let held = holds_back p h.s h.past h.holds in
      let first : d ≤ h.s = held.0 in
      let past : h.s ≤ t + d = h.past in
      let lasts : t + d ≤ h.s + e = h.lasts in
      record { s = h.s - d; past = omega arith; lasts = omega arith; holds = held.1 }

  timed_forth : (p e : ℕ) → IsTimed u p e t → IsTimed v p e (t + d)
  timed_forth p e h =
      let past : h.s ≤ t = h.past in
      let lasts : t ≤ h.s + e = h.lasts in
      record {
        s = h.s + d;
        past = omega arith;
        lasts = omega arith;
        holds = holds_forth p h.s past h.holds;
      }

-- where the seal's set comes later, its hold need do so behind a tick at which it was set
module _ (d t : ℕ) (a b x y : ℕ → Bool) (late : Comes_later d a x t)
    (keeps : (s r : ℕ) → s < r → r ≤ t → IsTrue (a s) → y (r + d) ≡ b r) where
  sealed_back : IsSealed x y (t + d) → IsSealed a b t
  sealed_back h =
      let first : d ≤ h.s = never d t a x late h.s h.starts in
      let past : h.s ≤ t + d = h.past in
      let set : IsTrue (a (h.s - d)) = back d t a x late.after h.s first past h.starts in
      record {
        s = h.s - d;
        past = omega arith;
        starts = set;
        stays = λ r from to.
            sym (keeps (h.s - d) r from to set) ∙ h.stays (r + d) (omega arith) (omega arith);
      }

  sealed_forth : IsSealed a b t → IsSealed x y (t + d)
  sealed_forth h =
      let past : h.s ≤ t = h.past in
      let e : h.s + d - d ≡ h.s = omega arith in
      record {
        s = h.s + d;
        past = omega arith;
        starts = forth d t a x late.after (h.s + d) (omega arith) (omega arith)
            (on_at a h.s (h.s + d - d) (sym e) h.starts);
        stays = λ r from to.
            let same : r - d + d ≡ r = omega arith in
            on_at y (r - d + d) r same
            (keeps h.s (r - d) (omega arith) (omega arith) h.starts
            ∙ h.stays (r - d) (omega arith) (omega arith));
      }

-- an element without dropout, behind a tick at which its input is off
module _ (d t s : ℕ) (u v : ℕ → Bool) (after : (r : ℕ) → r ≤ t → v (r + d) ≡ u r)
    (off : u s ≡ false) (early : s < t) where
  since_back : (p : ℕ) → IsTimed v p 0 (t + d) → IsTimed u p 0 t
  since_back p h =
      let now : h.s ≡ t + d = omega (arith, h.past, h.lasts) in
      let held : Holds v p (t + d) = subst (λ (q : ℕ). Holds v p q) now h.holds in
      let low : p ≤ t + d = held.late in
      let behind : s + p < t =
      ⊎_elim (λ lt. lt)
      (λ le. absurd (not_both (u s) off
      (sym (after s (omega arith)) ∙ held.on (s + d) (omega arith) (omega arith))))
      (cases_lt (s + p) t) in
      record {
        s = t;
        past = omega arith;
        lasts = omega arith;
        holds = record {
          late = omega arith;
          on = λ r from to. sym (after r to) ∙ held.on (r + d) (omega arith) (omega arith);
        };
      }

  since_forth : (p : ℕ) → IsTimed u p 0 t → IsTimed v p 0 (t + d)
  since_forth p h =
      let now : h.s ≡ t = omega (arith, h.past, h.lasts) in
      let held : Holds u p t = subst (λ (q : ℕ). Holds u p q) now h.holds in
      let low : p ≤ t = held.late in
      record {
        s = t + d;
        past = omega arith;
        lasts = omega arith;
        holds = record {
          late = omega arith;
          on = λ r from to.
              forth d t u v after r (omega arith) (omega arith)
              (held.on (r - d) (omega arith) (omega arith));
        };
      }

-- a test of what is not so is off
off_unless : {P : Type 0} (b : Bool) → Decides b P → (¬ P) → b ≡ false
off_unless true tells not_so = absurd (not_so (tells.0 refl))
off_unless false tells not_so = refl

module _ (laws : HistoryLaws) where
  pub timed-later : (d t p e : ℕ) (u v : ℕ → Bool) → Comes_later d u v t
      → timed v p e (t + d) ≡ timed u p e t
  timed-later d t p e u v late =
      same_from_decides (timed v p e (t + d)) (timed u p e t)
      (Decides-like _ (timed_back d t u v late p e) (timed_forth d t u v late p e)
      (laws.elements.timed v p e (t + d)))
      (laws.elements.timed u p e t)

  pub sealed-later : (d t : ℕ) (a b x y : ℕ → Bool) → Comes_later d a x t
      → ((s r : ℕ) → s < r → r ≤ t → IsTrue (a s) → y (r + d) ≡ b r)
      → sealed x y (t + d) ≡ sealed a b t
  sealed-later d t a b x y late keeps =
      same_from_decides (sealed x y (t + d)) (sealed a b t)
      (Decides-like _ (sealed_back d t a b x y late keeps) (sealed_forth d t a b x y late keeps)
      (laws.elements.sealed x y (t + d)))
      (laws.elements.sealed a b t)

  pub since-later : (d t s p : ℕ) (u v : ℕ → Bool) → ((r : ℕ) → r ≤ t → v (r + d) ≡ u r)
      → u s ≡ false → s < t → timed v p 0 (t + d) ≡ timed u p 0 t
  since-later d t s p u v after off early =
      same_from_decides (timed v p 0 (t + d)) (timed u p 0 t)
      (Decides-like _ (since_back d t s u v after off early p) (since_forth d t s u v after off early p)
      (laws.elements.timed v p 0 (t + d)))
      (laws.elements.timed u p 0 t)

  -- an element whose input was never on is off, and so is a seal that was never set
  pub timed-off : (t p e : ℕ) (u : ℕ → Bool) → ((r : ℕ) → r ≤ t → u r ≡ false)
      → timed u p e t ≡ false
  timed-off t p e u off =
      off_unless (timed u p e t) (laws.elements.timed u p e t)
      (λ h. not_both (u h.s) (off h.s h.past) (h.holds.on h.s (omega arith) (omega arith)))

  pub sealed-off : (t : ℕ) (a b : ℕ → Bool) → ((r : ℕ) → r ≤ t → a r ≡ false)
      → sealed a b t ≡ false
  sealed-off t a b off =
      off_unless (sealed a b t) (laws.elements.sealed a b t)
      (λ h. not_both (a h.s) (off h.s h.past) h.starts)

  -- an element without pickup and dropout
  pub timed-on : (t p : ℕ) (u : ℕ → Bool) → IsTrue (timed u p 0 t) → IsTrue (u t)
  timed-on t p u on =
      let h : IsTimed u p 0 t = (laws.elements.timed u p 0 t).0 on in
      let now : h.s ≡ t = omega (arith, h.past, h.lasts) in
      on_at u h.s t now (h.holds.on h.s (omega arith) (omega arith))
