-- A delay within the ends shows what a rail says.
use Rattle.std.proofs.Common.{◌≡◌, ◌&&◌, ℕ, zero, suc, ◌<◌, ◌≤◌, Bool, true, false, cond, refl}
use Rattle.std.proofs.Common.{sym, ◌∙◌, ap, arith, ⊎_elim, inl, inr}
use Rattle.std.proofs.lemmas.Bool.{cases_lt, and_parts, and_from, leb-true, le-leb}
use Rattle.std.proofs.lemmas.Bool.{false_from_ne_true, both_ways, not-true, not-false}
use Rattle.std.specs.Prelude.{◌⊎◌, IsTrue, IsFalse, nat_le}
use Rattle.model_history.specs.{Laws.HistoryLaws, Elements.delayed, Rails.Rails, Rails.Ends}
use Rattle.model_history.specs.{Rails.rails_delayed, Comes.AllCome, Comes.SomeComes}
use Rattle.model_logic.specs.Choice.{IsIn}
use Rattle.model_settle.specs.Sides.{Rail, Must, May, value_on}
use Rattle.model_settle.specs.Worst.{last_below, arrives, shows, worst_delay}

-- what the last one that passes is
pub record IsLast (q : ℕ → Bool) (n : ℕ) (i : ℕ) : Type 0 where
  pub below : i < n
  pub passes : IsTrue (q i)

pub record IsNone (q : ℕ → Bool) (none n i : ℕ) : Type 0 where
  pub is : i ≡ none
  pub fails : (k : ℕ) → k < n → IsFalse (q k)

last_step : (q : ℕ → Bool) (none n : ℕ) (rest : ℕ) (b : Bool) → q n ≡ b
    → (IsLast q n rest ⊎ IsNone q none n rest)
    → IsLast q (suc n) (cond b n rest) ⊎ IsNone q none (suc n) (cond b n rest)
last_step q none n rest true e before = inl (record { below = omega arith; passes = e })
last_step q none n rest false e before =
    ⊎_elim
    (λ h. let lt : rest < n = h.below in inl (record { below = omega arith; passes = h.passes }))
    (λ h. inr (record {
      is = h.is;
      fails = λ k lt. ⊎_elim (λ low. h.fails k low)
          (λ high. let same : n ≡ k = omega arith in ap q (sym same) ∙ e) (cases_lt k n);
    }))
    before

pub last_is : (q : ℕ → Bool) (none n : ℕ)
    → IsLast q n (last_below q none n) ⊎ IsNone q none n (last_below q none n)
last_is q none zero = inr (record { is = refl; fails = λ k lt. absurd (omega arith) })
last_is q none (suc n) =
    last_step q none n (last_below q none n) (q n) refl (last_is q none n)

-- the number that was found lies within, and shows it; or it is the least, and none within shows it
pub record IsFound (p : ℕ → Bool) (ends : Ends) (i : ℕ) : Type 0 where
  pub least : ends.least ≤ i
  pub greatest : i ≤ ends.greatest
  pub on : IsTrue (p i)

pub record IsAbsent (p : ℕ → Bool) (ends : Ends) (i : ℕ) : Type 0 where
  pub is : i ≡ ends.least
  pub off : (k : ℕ) → ends.least ≤ k → k ≤ ends.greatest → IsFalse (p k)

abbrev pub search_of : (ℕ → Bool) → Ends → ℕ
search_of p ends = last_below (λ k. nat_le ends.least k && p k) ends.least (suc ends.greatest)

pub search_is : (p : ℕ → Bool) (ends : Ends)
    → IsFound p ends (search_of p ends) ⊎ IsAbsent p ends (search_of p ends)
search_is p ends =
    ⊎_elim
    (λ h. let lt : search_of p ends < suc ends.greatest = h.below in
    let parts = and_parts (nat_le ends.least (search_of p ends)) (p (search_of p ends)) h.passes in
    inl (record {
      least = leb-true ends.least (search_of p ends) parts.0;
      greatest = omega arith;
      on = parts.1;
    }))
    (λ h. inr (record {
      is = h.is;
      off = λ k low high. false_from_ne_true (p k) (λ on.
          both_ways (nat_le ends.least k && p k) (h.fails k (omega arith))
          (and_from (nat_le ends.least k) (p k) (le-leb ends.least k low) on));
    }))
    (last_is (λ k. nat_le ends.least k && p k) ends.least (suc ends.greatest))

search_within : (p : ℕ → Bool) (ends : Ends) → ends.least ≤ ends.greatest
    → IsIn (search_of p ends) ends
search_within p ends ordered =
    ⊎_elim
    (λ h. record { least = h.least; greatest = h.greatest })
    (λ h. let is : search_of p ends ≡ ends.least = h.is in
    record { least = omega arith; greatest = omega arith })
    (search_is p ends)

pub worst_within : (rail : Rail) (u : ℕ → Rails) (ends : Ends) (t : ℕ) → ends.least ≤ ends.greatest
    → IsIn (worst_delay rail u ends t) ends
unfolding worst_delay
worst_within rail u ends t ordered =
    search_within (λ k. shows rail (arrives rail u t k)) ends ordered

module _ (laws : HistoryLaws) (u : ℕ → Rails) (ends : Ends) (t : ℕ)
    (ordered : ends.least ≤ ends.greatest) where
  value_may : (i : ℕ)
      → (IsFound (λ k. shows May (arrives May u t k)) ends i
      ⊎ IsAbsent (λ k. shows May (arrives May u t k)) ends i)
      → delayed (λ r. (u r).may) i t ≡ (rails_delayed u ends t).may
  value_may i found =
      ⊎_elim
      (λ h.
      let on : IsTrue (delayed (λ r. (u r).may) i t) = h.on in
      let some : IsTrue (rails_delayed u ends t).may =
      (laws.delays.may u (λ _. ends) t).1 (record {
        c = i;
        least = h.least;
        greatest = h.greatest;
        comes = (laws.delays.delayed (λ r. (u r).may) i t).0 on;
      }) in
      on ∙ sym some)
      (λ h.
      let off : (k : ℕ) → ends.least ≤ k → k ≤ ends.greatest
      → IsFalse (delayed (λ r. (u r).may) k t) = h.off in
      let is : i ≡ ends.least = h.is in
      let none : IsFalse (rails_delayed u ends t).may =
      false_from_ne_true (rails_delayed u ends t).may (λ on.
      let s : SomeComes (λ r. (u r).may) ends t = (laws.delays.may u (λ _. ends) t).0 on in
      both_ways (delayed (λ r. (u r).may) s.c t) (off s.c s.least s.greatest)
      ((laws.delays.delayed (λ r. (u r).may) s.c t).1 s.comes)) in
      off i (omega arith) (omega arith) ∙ sym none)
      found

  value_must : (i : ℕ)
      → (IsFound (λ k. shows Must (arrives Must u t k)) ends i
      ⊎ IsAbsent (λ k. shows Must (arrives Must u t k)) ends i)
      → delayed (λ r. (u r).must) i t ≡ (rails_delayed u ends t).must
  value_must i found =
      ⊎_elim
      (λ h.
      let off : IsFalse (delayed (λ r. (u r).must) i t) =
      not-true (delayed (λ r. (u r).must) i t) h.on in
      let none : IsFalse (rails_delayed u ends t).must =
      false_from_ne_true (rails_delayed u ends t).must (λ on.
      let all : AllCome (λ r. (u r).must) ends t = (laws.delays.must u (λ _. ends) t).0 on in
      both_ways (delayed (λ r. (u r).must) i t) off
      ((laws.delays.delayed (λ r. (u r).must) i t).1 (all i h.least h.greatest))) in
      off ∙ sym none)
      (λ h.
      let on : (k : ℕ) → ends.least ≤ k → k ≤ ends.greatest
      → IsTrue (delayed (λ r. (u r).must) k t) =
      λ k low high. not-false (delayed (λ r. (u r).must) k t) (h.off k low high) in
      let is : i ≡ ends.least = h.is in
      let all : IsTrue (rails_delayed u ends t).must =
      (laws.delays.must u (λ _. ends) t).1 (λ k low high.
      (laws.delays.delayed (λ r. (u r).must) k t).0 (on k low high)) in
      on i (omega arith) (omega arith) ∙ sym all)
      found

  pub worst_value : (rail : Rail)
      → delayed (λ r. value_on rail (u r)) (worst_delay rail u ends t) t
      ≡ value_on rail (rails_delayed u ends t)
  unfolding worst_delay
  worst_value Must =
      value_must (search_of (λ k. shows Must (arrives Must u t k)) ends)
      (search_is (λ k. shows Must (arrives Must u t k)) ends)
  worst_value May =
      value_may (search_of (λ k. shows May (arrives May u t k)) ends)
      (search_is (λ k. shows May (arrives May u t k)) ends)
