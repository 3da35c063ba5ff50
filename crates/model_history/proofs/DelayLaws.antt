-- The delay, and what is received by the interval rule.
use Rattle.std.proofs.Common.{◌≡◌, ℕ, suc, ◌+◌, ◌-◌, ◌<◌, ◌≤◌, Bool, false, ◌&&◌, ◌||◌, ◌∙◌, ap}
use Rattle.std.proofs.Common.{subst, arith, inl, inr, ⊎_elim, ◌⊎◌, sym, length}
use Rattle.std.proofs.lemmas.Bool.{cases_lt, le-leb, lt-leb}
use Rattle.std.proofs.lemmas.Bool.Decides.{Decides-like, Decides-and, Decides-or, Decides-ltb}
use Rattle.std.proofs.lemmas.Bool.Decides.{same_from_decides}
use Rattle.std.specs.Prelude.{nat_le, nat_lt, IsTrue, Decides}
use Rattle.model_history.specs.Rails.{Rails, Ends, Covers, rails_delayed, rails_at, must_of, may_of}
use Rattle.model_history.specs.Comes.{Comes, AllCome, SomeComes}
use Rattle.model_history.specs.{Elements.delayed, Recorded.first_ticks}
use Rattle.model_history.specs.FirstTickLaws.{length-first_ticks}
use Rattle.model_history.proofs.ElementLaws.{Decides-every, Decides-some}
use Rattle.model_history.proofs.RailsBridge.{rails_at-first_ticks}
use Rattle.model_history.specs.TruthLaws.{Decides-true, Decides-le}

pub Decides-delayed : (u : ℕ → Bool) (c t : ℕ) → Decides (delayed u c t) (Comes u c t)
unfolding delayed
Decides-delayed u c t = Decides-like _ (λ both. record { past = both.0; on = both.1 })
    (λ h. (h.past, h.on)) (Decides-and _ _ (Decides-le c t) (Decides-true (u (t - c))))

pub Decides-must : (u : ℕ → Rails) (ends : Ends) (t : ℕ) →
    Decides (rails_delayed u ends t).must (AllCome (λ r. (u r).must) ends t)
unfolding rails_delayed
Decides-must u ends t =
    Decides-like _
    (λ all c low high. ⊎_elim (λ lt. absurd (omega arith)) (λ h. h) (all c (omega arith)))
    (λ all c lt. ⊎_elim (λ below. inl below) (λ low. inr (all c low (omega arith)))
    (cases_lt c ends.least))
    (Decides-every (λ k. nat_lt k ends.least || delayed (λ r. (u r).must) k t)
    (λ k. (k < ends.least) ⊎ Comes (λ r. (u r).must) k t) (suc ends.greatest)
    (λ k. Decides-or (nat_lt k ends.least) (delayed (λ r. (u r).must) k t)
    (Decides-ltb k ends.least) (Decides-delayed (λ r. (u r).must) k t)))

pub Decides-may : (u : ℕ → Rails) (ends : Ends) (t : ℕ) →
    Decides (rails_delayed u ends t).may (SomeComes (λ r. (u r).may) ends t)
unfolding rails_delayed
Decides-may u ends t =
    Decides-like _
    (λ (c, lt, both). record { c = c; least = both.0; greatest = omega arith; comes = both.1 })
    (λ h. let top : h.c ≤ ends.greatest = h.greatest in (h.c, omega arith, (h.least, h.comes)))
    (Decides-some (λ k. nat_le ends.least k && delayed (λ r. (u r).may) k t)
    (λ k. (ends.least ≤ k) × Comes (λ r. (u r).may) k t) (suc ends.greatest)
    (λ k. Decides-and (nat_le ends.least k) (delayed (λ r. (u r).may) k t) (Decides-le ends.least k)
    (Decides-delayed (λ r. (u r).may) k t)))

-- a delay within the ends is covered: only ticks before t are read
pub delayed_covers : (u : ℕ → Rails) (v : ℕ → Bool) (ends : Ends) (c t : ℕ) → 1 ≤ c →
    ((r : ℕ) → r < t → Covers (u r) (v r)) → ends.least ≤ c → c ≤ ends.greatest →
    Covers (rails_delayed u ends t) (delayed v c t)
delayed_covers u v ends c t later h low high = record {
  must = λ on. (
      let came : Comes (λ r. (u r).must) c t = (Decides-must u ends t).0 on c low high in
      let past : c ≤ t = came.past in
      (Decides-delayed v c t).1
      (record { past = past; on = (h (t - c) (omega arith)).must came.on })
      );
  may = λ on. (
      let came : Comes v c t = (Decides-delayed v c t).0 on in
      let past : c ≤ t = came.past in
      (Decides-may u ends t).1 (record {
        c = c;
        least = low;
        greatest = high;
        comes = record { past = past; on = (h (t - c) (omega arith)).may came.on };
      })
      );
}

-- what must come may come
pub delayed_sound : (u : ℕ → Rails) (ends : Ends) (t : ℕ) → ends.least ≤ ends.greatest →
    ((r : ℕ) → r ≤ t → IsTrue (u r).must → IsTrue (u r).may) →
    IsTrue (rails_delayed u ends t).must → IsTrue (rails_delayed u ends t).may
delayed_sound u ends t ordered h on =
    let came : Comes (λ r. (u r).must) ends.least t =
    (Decides-must u ends t).0 on ends.least (omega arith) ordered in
    (Decides-may u ends t).1 (record {
      c = ends.least;
      least = omega arith;
      greatest = ordered;
      comes = record { past = came.past; on = h (t - ends.least) (omega arith) came.on };
    })

-- at one delay both rails come after it
pub delayed_single : (u : ℕ → Rails) (c t : ℕ) →
    rails_delayed u (record { least = c; greatest = c }) t ≡ record {
      must = delayed (λ r. (u r).must) c t;
      may = delayed (λ r. (u r).may) c t;
    }
delayed_single u c t =
    let e : (rails_delayed u (record { least = c; greatest = c }) t).must ≡ delayed
    (λ r. (u r).must) c t =
    same_from_decides (rails_delayed u (record { least = c; greatest = c }) t).must
    (delayed (λ r. (u r).must) c t) (Decides-must u (record { least = c; greatest = c }) t) (
      (λ on k low high. let i : c ≡ k = omega arith in
          subst (λ (x : ℕ). Comes (λ r. (u r).must) x t) i
          ((Decides-delayed (λ r. (u r).must) c t).0 on)),
      (λ all. (Decides-delayed (λ r. (u r).must) c t).1 (all c (omega arith) (omega arith))),
    ) in
    let f : (rails_delayed u (record { least = c; greatest = c }) t).may ≡ delayed
    (λ r. (u r).may) c t =
    same_from_decides (rails_delayed u (record { least = c; greatest = c }) t).may
    (delayed (λ r. (u r).may) c t) (Decides-may u (record { least = c; greatest = c }) t) (
      (λ on. record {
        c = c;
        least = omega arith;
        greatest = omega arith;
        comes = (Decides-delayed (λ r. (u r).may) c t).0 on;
      }),
      (λ h. let low : c ≤ h.c = h.least in let high : h.c ≤ c = h.greatest in let i : h.c ≡ c =
          omega arith in (Decides-delayed (λ r. (u r).may) c t).1
          (subst (λ (x : ℕ). Comes (λ r. (u r).may) x t) i h.comes)),
    ) in
    ap (λ (b : Bool). record {
      must = b;
      may = (rails_delayed u (record { least = c; greatest = c }) t).may;
    }) e
    ∙ ap (λ (b : Bool). record { must = delayed (λ r. (u r).must) c t; may = b }) f

pub delayed_at : (u : ℕ → Bool) (c t : ℕ) → c ≤ t → delayed u c t ≡ u (t - c)
unfolding delayed
delayed_at u c t h = ap (λ (b : Bool). b && u (t - c)) (le-leb c t h)

pub delayed_before : (u : ℕ → Bool) (c t : ℕ) → t < c → delayed u c t ≡ false
unfolding delayed
delayed_before u c t h = ap (λ (b : Bool). b && u (t - c)) (lt-leb c t h)

-- what is received after one delay
pub single_at : (u : ℕ → Rails) (c t : ℕ) → c ≤ t →
    rails_delayed u (record { least = c; greatest = c }) t ≡ u (t - c)
single_at u c t h = delayed_single u c t
    ∙ ap (λ (b : Bool). record { must = b; may = delayed (λ r. (u r).may) c t })
    (delayed_at (λ r. (u r).must) c t h)
    ∙ ap (λ (b : Bool). record { must = (u (t - c)).must; may = b })
    (delayed_at (λ r. (u r).may) c t h)

pub single_before : (u : ℕ → Rails) (c t : ℕ) → t < c →
    rails_delayed u (record { least = c; greatest = c }) t ≡ record { must = false; may = false }
single_before u c t h = delayed_single u c t
    ∙ ap (λ (b : Bool). record { must = b; may = delayed (λ r. (u r).may) c t })
    (delayed_before (λ r. (u r).must) c t h)
    ∙ ap (λ (b : Bool). record { must = false; may = b }) (delayed_before (λ r. (u r).may) c t h)

-- what arrives at t is what was on c ticks before
pub delayed-same : (u v : ℕ → Bool) (c t : ℕ) → ((r : ℕ) → r + c ≡ t → u r ≡ v r) →
    delayed u c t ≡ delayed v c t
delayed-same u v c t same = ⊎_elim
    (λ early. delayed_before u c t early ∙ sym (delayed_before v c t early))
    (λ past. delayed_at u c t past ∙ same (t - c) (omega arith) ∙ sym (delayed_at v c t past))
    (cases_lt t c)

come_same : (u v : ℕ → Bool) (c t : ℕ) → ((r : ℕ) → r + c ≡ t → u r ≡ v r) → Comes u c t →
    Comes v c t
come_same u v c t same h = let past : c ≤ t = h.past in
    record { past = past; on = sym (same (t - c) (omega arith)) ∙ h.on }

some_same : (u v : ℕ → Bool) (c : Ends) (t : ℕ) →
    ((r : ℕ) → r + c.least ≤ t → t ≤ r + c.greatest → u r ≡ v r) → SomeComes u c t →
    SomeComes v c t
some_same u v c t same h =
    let low : c.least ≤ h.c = h.least in
    let high : h.c ≤ c.greatest = h.greatest in
    record {
      c = h.c;
      least = low;
      greatest = high;
      comes = come_same u v h.c t (λ r at. same r (omega arith) (omega arith)) h.comes;
    }

-- what is received rests on the keys within the ends before t alone
pub rails_delayed-same : (u v : ℕ → Rails) (c : Ends) (t : ℕ) →
    ((r : ℕ) → r + c.least ≤ t → t ≤ r + c.greatest → u r ≡ v r) →
    rails_delayed u c t ≡ rails_delayed v c t
rails_delayed-same u v c t same =
    let must : (rails_delayed u c t).must ≡ (rails_delayed v c t).must =
    same_from_decides (rails_delayed u c t).must (rails_delayed v c t).must (Decides-must u c t) (
      (λ on k low high. come_same (λ r. (v r).must) (λ r. (u r).must) k t
          (λ r at. ap must_of (sym (same r (omega arith) (omega arith))))
          ((Decides-must v c t).0 on k low high)),
      (λ all. (Decides-must v c t).1 (λ k low high. come_same (λ r. (u r).must)
          (λ r. (v r).must) k t
          (λ r at. ap must_of (same r (omega arith) (omega arith))) (all k low high))),
    ) in
    let may : (rails_delayed u c t).may ≡ (rails_delayed v c t).may =
    same_from_decides (rails_delayed u c t).may (rails_delayed v c t).may (Decides-may u c t) (
      (λ on. some_same (λ r. (v r).may) (λ r. (u r).may) c t
          (λ r low high. ap may_of (sym (same r low high))) ((Decides-may v c t).0 on)),
      (λ h. (Decides-may v c t).1 (some_same (λ r. (u r).may) (λ r. (v r).may) c t
          (λ r low high. ap may_of (same r low high)) h)),
    ) in
    ap (λ (b : Bool). record { must = b; may = (rails_delayed u c t).may }) must
    ∙ ap (λ (b : Bool). record { must = (rails_delayed v c t).must; may = b }) may

-- delays of at least 1 read the ticks before t alone
pub rails_delayed-past : (u v : ℕ → Rails) (c : Ends) (t : ℕ) → 1 ≤ c.least →
    ((r : ℕ) → r < t → u r ≡ v r) → rails_delayed u c t ≡ rails_delayed v c t
rails_delayed-past u v c t later same =
    rails_delayed-same u v c t (λ r low high. same r (omega arith))

-- what is received, over the keys recorded so far, is that over the whole history
pub delayed_of_ticks : (u : ℕ → Rails) (c : Ends) (t : ℕ) → 1 ≤ c.least →
    rails_delayed (rails_at (first_ticks u t)) c (length (first_ticks u t)) ≡ rails_delayed u c t
delayed_of_ticks u c t some =
    ap (rails_delayed (rails_at (first_ticks u t)) c) (length-first_ticks u t)
    ∙ rails_delayed-past (rails_at (first_ticks u t)) u c t some
    (λ r lt. rails_at-first_ticks u t r lt)
