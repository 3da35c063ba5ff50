-- Elements over a history of which a stretch has one value.
use Rattle.std.proofs.Common.{◌≡◌, ℕ, zero, suc, ◌+◌, ◌-◌, ◌<◌, ◌≤◌, Bool, List, [], ◌∷◌, ◌++◌}
use Rattle.std.proofs.Common.{length, replicate, sym, ◌∙◌, ap, arith, append_assoc, ⊎_elim}
use Rattle.std.proofs.lemmas.Bool.{cases_lt}
use Rattle.std.proofs.lemmas.Bool.Decides.{Decides-like, same_from_decides}
use Rattle.std.proofs.lemmas.List.{append-nil, replicate_more}
use Rattle.model_history.specs.Rails.{Rails, Ends, rails_at, rails_timed, rails_sealed, must_of}
use Rattle.model_history.specs.Rails.{may_of}
use Rattle.model_history.specs.Laws.{HistoryLaws}
use Rattle.model_history.specs.{Elements.sealed, Elements.IsSealed, Recorded.first_ticks}
use Rattle.run_signal.specs.{Ahead.next_rails, Stretches.StaysAt, Stretches.ElementsInAStretch}

-- the ticks of a stretch more
ticks_throughout : (u : ℕ → Rails) (x : Rails) (n m : ℕ) → StaysAt u x n m
    → first_ticks u n ++ replicate m x ≡ first_ticks u (n + m)
ticks_throughout u x n zero stays =
    append-nil (first_ticks u n)
    ∙ (let e : n ≡ n + 0 = omega arith in ap (first_ticks u) e)
ticks_throughout u x n (suc m) stays =
    let before = ticks_throughout u x n m (λ k low high. stays k low (omega arith)) in
    let one : m + 1 ≡ suc m = omega arith in
    let next : suc (n + m) ≡ n + suc m = omega arith in
    ap (λ (l : List Rails). first_ticks u n ++ l)
    (ap (λ (k : ℕ). replicate k x) (sym one) ∙ sym (replicate_more m x))
    ∙ sym (append_assoc (first_ticks u n) (replicate m x) (x ∷ []))
    ∙ ap (λ (l : List Rails). l ++ x ∷ []) before
    ∙ ap (λ (y : Rails). first_ticks u (n + m) ++ y ∷ [])
    (sym (stays (n + m) (omega arith) (omega arith)))
    ∙ ap (first_ticks u) next

module _ (laws : HistoryLaws) where
  -- ---- the seal

  -- one rail: with the same set and keep it stays as it is
  on_still : (set keep : ℕ → Bool) (t : ℕ) → set (suc t) ≡ set t → keep (suc t) ≡ keep t
      → IsSealed set keep t → IsSealed set keep (suc t)
  on_still set keep t same kept h = ⊎_elim
      (λ before. record {
        s = h.s;
        past = omega arith;
        starts = h.starts;
        stays = λ r low high. ⊎_elim
            (λ early. h.stays r low (omega arith))
            (λ late. let last : r ≡ suc t = omega arith in
            ap keep last ∙ kept ∙ h.stays t before (omega arith))
            (cases_lt r (suc t));
      })
      (λ after. let past : h.s ≤ t = h.past in let now : h.s ≡ t = omega arith in
      record {
        s = suc t;
        past = omega arith;
        starts = same ∙ ap set (sym now) ∙ h.starts;
        stays = λ r low high. absurd (omega arith);
      })
      (cases_lt h.s t)

  still_on : (set keep : ℕ → Bool) (t : ℕ) → set (suc t) ≡ set t → keep (suc t) ≡ keep t
      → IsSealed set keep (suc t) → IsSealed set keep t
  still_on set keep t same kept h = ⊎_elim
      (λ before. record {
        s = h.s;
        past = omega arith;
        starts = h.starts;
        stays = λ r low high. h.stays r low (omega arith);
      })
      (λ after. let past : h.s ≤ suc t = h.past in let now : h.s ≡ suc t = omega arith in
      record {
        s = t;
        past = omega arith;
        starts = sym same ∙ ap set (sym now) ∙ h.starts;
        stays = λ r low high. absurd (omega arith);
      })
      (cases_lt h.s (suc t))

  sealed_still : (set keep : ℕ → Bool) (t : ℕ) → set (suc t) ≡ set t → keep (suc t) ≡ keep t
      → sealed set keep (suc t) ≡ sealed set keep t
  sealed_still set keep t same kept =
      same_from_decides (sealed set keep (suc t)) (sealed set keep t)
      (laws.elements.sealed set keep (suc t))
      (Decides-like _ (on_still set keep t same kept) (still_on set keep t same kept)
      (laws.elements.sealed set keep t))

  rails_sealed_still : (u v : ℕ → Rails) (t : ℕ) → u (suc t) ≡ u t → v (suc t) ≡ v t
      → rails_sealed u v (suc t) ≡ rails_sealed u v t
  rails_sealed_still u v t same kept =
      ap (λ (b : Bool). record {
        must = b;
        may = sealed (λ r. (u r).may) (λ r. (v r).may) (suc t);
      })
      (sealed_still (λ r. (u r).must) (λ r. (v r).must) t (ap must_of same) (ap must_of kept))
      ∙ ap (λ (b : Bool). record {
        must = sealed (λ r. (u r).must) (λ r. (v r).must) t;
        may = b;
      })
      (sealed_still (λ r. (u r).may) (λ r. (v r).may) t (ap may_of same) (ap may_of kept))

  sealed_throughout : (u v : ℕ → Rails) (x y : Rails) (n m i : ℕ) → StaysAt u x n m
      → StaysAt v y n m → i < m → rails_sealed u v (n + i) ≡ rails_sealed u v n
  sealed_throughout u v x y n m zero stays keeps inside =
      let e : n + 0 ≡ n = omega arith in ap (rails_sealed u v) e
  sealed_throughout u v x y n m (suc i) stays keeps inside =
      let next : n + suc i ≡ suc (n + i) = omega arith in
      ap (rails_sealed u v) next
      ∙ rails_sealed_still u v (n + i)
      (stays (suc (n + i)) (omega arith) (omega arith)
      ∙ sym (stays (n + i) (omega arith) (omega arith)))
      (keeps (suc (n + i)) (omega arith) (omega arith)
      ∙ sym (keeps (n + i) (omega arith) (omega arith)))
      ∙ sealed_throughout u v x y n m i stays keeps (omega arith)

  sealed_in : (u v : ℕ → Rails) (x y : Rails) (n m k : ℕ) → StaysAt u x n m → StaysAt v y n m
      → n ≤ k → k < n + m → rails_sealed u v k ≡ rails_sealed u v n
  sealed_in u v x y n m k stays keeps low high =
      let e : k ≡ n + (k - n) = omega arith in
      ap (rails_sealed u v) e ∙ sealed_throughout u v x y n m (k - n) stays keeps (omega arith)

  -- ---- the timed element

  next_is : (u : ℕ → Rails) (p d : Ends) (x : Rails) (n i : ℕ) → StaysAt u x n (suc i)
      → next_rails p d (first_ticks u n) x i ≡ rails_timed u p d (n + i)
  next_is u p d x n i stays =
      ap (λ (l : List Rails). rails_timed (rails_at l) p d (length (first_ticks u n) + i))
      (ticks_throughout u x n (suc i) stays)
      ∙ ap (λ (k : ℕ). rails_timed (rails_at (first_ticks u (n + suc i))) p d (k + i))
      (laws.recordings.count u n)
      ∙ laws.rails_past.timed (rails_at (first_ticks u (n + suc i))) u p d (n + i)
      (λ r le. laws.recordings.rails u (n + suc i) r (omega arith))

  timed_in : (u : ℕ → Rails) (p d : Ends) (x : Rails) (n m k : ℕ) → StaysAt u x n m
      → ((i : ℕ) → i < m
      → next_rails p d (first_ticks u n) x i ≡ next_rails p d (first_ticks u n) x 0)
      → n ≤ k → k < n + m → rails_timed u p d k ≡ rails_timed u p d n
  timed_in u p d x n m k stays steady low high =
      let e : k ≡ n + (k - n) = omega arith in
      let first : n + 0 ≡ n = omega arith in
      ap (rails_timed u p d) e
      ∙ sym (next_is u p d x n (k - n) (λ j least most. stays j least (omega arith)))
      ∙ steady (k - n) (omega arith)
      ∙ next_is u p d x n 0 (λ j least most. stays j least (omega arith))
      ∙ ap (rails_timed u p d) first

  pub elements_in_a_stretch : ElementsInAStretch
  elements_in_a_stretch = record {
    recorded = ticks_throughout;
    sealed = λ u v x y n m k stays keeps low high. sealed_in u v x y n m k stays keeps low high;
    timed = timed_in;
  }
