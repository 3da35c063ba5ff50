-- Elements over a wave of which a stretch has one value.
use Rattle.std.proofs.Common.{◌≡◌, ℕ, zero, suc, ◌+◌, ◌-◌, ◌<◌, ◌≤◌, [], ◌∷◌, ◌++◌, length, refl}
use Rattle.std.proofs.Common.{sym, ◌∙◌, ap, arith, Bool}
use Rattle.std.proofs.lemmas.Bool.Decides.{same_from_decides}
use Rattle.std.specs.Prelude.{IsTrue, ◌↔◌}
use Rattle.model_history.specs.Elements.{timed, IsTimed}
use Rattle.model_history.specs.Rails.{Rails, Ends, rails_at, rails_timed, rails_sealed}
use Rattle.model_history.specs.{Laws.HistoryLaws, Recorded.first_ticks}
use Rattle.run_signal.specs.Seals.{last_seal, SealStandsFor}
use Rattle.run_signal.specs.{Ahead.next_rails, Stretches.StaysAt, Stretches.ElementsInAStretch}

module _ (laws : HistoryLaws) where
  last_seal-ticks : (u v : ℕ → Rails) (n : ℕ)
      → last_seal u v n ≡ last_seal (rails_at (first_ticks u n)) (rails_at (first_ticks v n)) n
  last_seal-ticks u v zero = refl
  last_seal-ticks u v (suc t) =
      laws.rails_past.sealed u v (rails_at (first_ticks u (suc t))) (rails_at (first_ticks v (suc t))) t
      (λ r le. sym (laws.recordings.rails u (suc t) r (omega arith)))
      (λ r le. sym (laws.recordings.rails v (suc t) r (omega arith)))

  pub seal_stands : (u v : ℕ → Rails) (last : Rails) (n : ℕ) → last ≡ last_seal u v n
      → SealStandsFor last (first_ticks u n) (first_ticks v n)
  seal_stands u v last n is = record {
    together = laws.recordings.count v n ∙ sym (laws.recordings.count u n);
    last_is = is ∙ last_seal-ticks u v n
        ∙ ap (last_seal (rails_at (first_ticks u n)) (rails_at (first_ticks v n)))
        (sym (laws.recordings.count u n));
  }

  -- the answer at the first tick of a stretch
  pub seal_answer : (u v : ℕ → Rails) (x y now : Rails) (n : ℕ) → u n ≡ x → v n ≡ y
      → now ≡ rails_sealed (rails_at (first_ticks u n ++ x ∷ []))
      (rails_at (first_ticks v n ++ y ∷ [])) (length (first_ticks u n))
      → now ≡ rails_sealed u v n
  seal_answer u v x y now n is_x is_y is =
      is
      ∙ ap (λ (z : Rails). rails_sealed (rails_at (first_ticks u n ++ z ∷ []))
      (rails_at (first_ticks v n ++ y ∷ [])) (length (first_ticks u n))) (sym is_x)
      ∙ ap (λ (z : Rails). rails_sealed (rails_at (first_ticks u n ++ u n ∷ []))
      (rails_at (first_ticks v n ++ z ∷ [])) (length (first_ticks u n))) (sym is_y)
      ∙ laws.recorded.sealed u v n

  -- with no pickup and no dropout an element is its input
  is_timed_now : (u : ℕ → Bool) (p d t : ℕ) → p ≡ 0 → d ≡ 0 → IsTrue (u t) ↔ IsTimed u p d t
  is_timed_now u p d t no_pickup no_dropout = (
    λ on. record {
      s = t;
      past = omega arith;
      lasts = omega arith;
      holds = record {
        late = omega arith;
        on = λ r low high. let same : r ≡ t = omega arith in ap u same ∙ on;
      };
    },
    λ timed. (let lasts : t ≤ timed.s + d = timed.lasts in
        let past : timed.s ≤ t = timed.past in
        timed.holds.on t (omega arith) (omega arith)),
  )

  timed_now : (u : ℕ → Bool) (p d t : ℕ) → p ≡ 0 → d ≡ 0 → u t ≡ timed u p d t
  timed_now u p d t no_pickup no_dropout =
      same_from_decides (u t) (timed u p d t) (is_timed_now u p d t no_pickup no_dropout)
      (laws.elements.timed u p d t)

  pub rails_timed_now : (u : ℕ → Rails) (p d : Ends) (t : ℕ) → p.least ≤ p.greatest
      → d.least ≤ d.greatest → p.greatest ≡ 0 → d.greatest ≡ 0 → u t ≡ rails_timed u p d t
  rails_timed_now u p d t pickups dropouts no_pickup no_dropout =
      let must = timed_now (λ r. (u r).must) p.greatest d.least t no_pickup (omega arith) in
      let may = timed_now (λ r. (u r).may) p.least d.greatest t (omega arith) no_dropout in
      ap (λ (b : Bool). record { must = b; may = (u t).may }) must
      ∙ ap (λ (b : Bool). record { must = (rails_timed u p d t).must; may = b }) may

module _ (laws : HistoryLaws) (stretch : ElementsInAStretch) where
  -- what a seal keeps is the answer at the last tick of the stretch
  pub kept_to_the_end : (u v : ℕ → Rails) (x y now : Rails) (n m : ℕ) → StaysAt u x n m
      → StaysAt v y n m → 1 ≤ m → now ≡ rails_sealed u v n → now ≡ last_seal u v (n + m)
  kept_to_the_end u v x y now n m stays keeps some is =
      let last : suc (n + (m - 1)) ≡ n + m = omega arith in
      is
      ∙ sym (stretch.sealed u v x y n m (n + (m - 1)) stays keeps (omega arith) (omega arith))
      ∙ ap (last_seal u v) last

  -- while the answers are steady, and the input stays as it is, each is that at the first tick
  pub timed_in : (u : ℕ → Rails) (p d : Ends) (x now : Rails) (n m : ℕ) → StaysAt u x n m
      → ((i : ℕ) → i < m
      → next_rails p d (first_ticks u n) x i ≡ next_rails p d (first_ticks u n) x 0)
      → now ≡ rails_timed (rails_at (first_ticks u n ++ x ∷ [])) p d (length (first_ticks u n))
      → (k : ℕ) → n ≤ k → k < n + m → now ≡ rails_timed u p d k
  timed_in u p d x now n m stays steady is k low high =
      is
      ∙ ap (λ (y : Rails). rails_timed (rails_at (first_ticks u n ++ y ∷ [])) p d
      (length (first_ticks u n))) (sym (stays n (omega arith) (omega arith)))
      ∙ laws.recorded.timed u p d n
      ∙ sym (stretch.timed u p d x n m k stays steady low high)
