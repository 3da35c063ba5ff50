-- Both rails, each as a value that is known.
use Rattle.std.proofs.Common.{◌≡◌, ◌≤◌, ◌<◌, ◌+◌, ◌||◌, ℕ, zero, suc, Bool, true, false, List}
use Rattle.std.proofs.Common.{◌∷◌, ◌++◌, length, min, replicate, refl, sym, ◌∙◌, ap, arith}
use Rattle.std.proofs.lemmas.List.{map-append, length-map}
use Rattle.std.proofs.Math.ListN.{get_or-map}
use Rattle.model_history.specs.Rails.{Rails, Ends, IsSound, both, single, must_of, may_of, rails_at}
use Rattle.model_history.specs.Rails.{rails_timed}
use Rattle.model_history.specs.{Elements.timed, Laws.HistoryLaws}
use Rattle.run_signal.specs.{Ahead.next_rails, Ahead.IsSteadyFor, Cells.AllSound}
use Rattle.run_signal.specs.SoundLaws.{sound_at}
use Rattle.judge_verdict.specs.boxes.Cells.{one_rail}

-- ---- what must be may be

-- where what must be may be, one or the other is what may be
pub may_alone : (x : Rails) → IsSound x → (x.must || x.may) ≡ x.may
may_alone x sound = from x.must x.may sound where
  from : (a b : Bool) → (a ≡ true → b ≡ true) → (a || b) ≡ b
  from true b on = sym (on refl)
  from false b on = refl

-- ---- one rail of a list of rails

rail-replicate : (rail : Rails → Bool) (n : ℕ) (x : Rails)
    → one_rail rail (replicate n x) ≡ replicate n (both (rail x))
rail-replicate rail zero x = refl
rail-replicate rail (suc n) x =
    ap (λ (l : List Rails). both (rail x) ∷ l) (rail-replicate rail n x)

pub rail-more : (rail : Rails → Bool) (l : List Rails) (n : ℕ) (x : Rails)
    → one_rail rail l ++ replicate n (both (rail x)) ≡ one_rail rail (l ++ replicate n x)
rail-more rail l n x =
    ap (λ (k : List Rails). one_rail rail l ++ k) (sym (rail-replicate rail n x))
    ∙ sym (map-append (λ y. both (rail y)) l (replicate n x))

pub must_reads : (l : List Rails) (r : ℕ)
    → rails_at (one_rail must_of l) r ≡ both (must_of (rails_at l r))
must_reads l r = get_or-map (λ x. both (must_of x)) l r (both false)

pub may_reads : (l : List Rails) (r : ℕ)
    → rails_at (one_rail may_of l) r ≡ both (may_of (rails_at l r))
may_reads l r = get_or-map (λ x. both (may_of x)) l r (both false)

module _ (laws : HistoryLaws) (rail : Rails → Bool)
    (reads : (l : List Rails) (r : ℕ) → rails_at (one_rail rail l) r ≡ both (rail (rails_at l r)))
  where
    -- the element over one rail, on both of its own
    pub timed_rail : (l : List Rails) (p d t : ℕ)
        → rails_timed (rails_at (one_rail rail l)) (single p) (single d) t
        ≡ both (timed (λ r. rail (rails_at l r)) p d t)
    timed_rail l p d t =
        let past : (of : Rails → Bool) → ((v : Bool) → of (both v) ≡ v)
        → timed (λ r. of (rails_at (one_rail rail l) r)) p d t
        ≡ timed (λ r. rail (rails_at l r)) p d t =
        λ of known. laws.elements_past.timed (λ r. of (rails_at (one_rail rail l) r))
        (λ r. rail (rails_at l r)) p d t
        (λ r _. ap of (reads l r) ∙ known (rail (rails_at l r))) in
        ap (λ (v : Bool). record {
          must = v;
          may = timed (λ r. (rails_at (one_rail rail l) r).may) p d t;
        }) (past must_of (λ v. refl))
        ∙ ap (λ (v : Bool). record { must = timed (λ r. rail (rails_at l r)) p d t; may = v })
        (past may_of (λ v. refl))

    -- the same at the k-th of the next ticks, all with this input
    pub next_rail : (l : List Rails) (x : Rails) (p d k : ℕ)
        → next_rails (single p) (single d) (one_rail rail l) (both (rail x)) k
        ≡ both (timed (λ r. rail (rails_at (l ++ replicate (suc k) x) r)) p d (length l + k))
    next_rail l x p d k =
        ap (λ (m : List Rails). rails_timed (rails_at m) (single p) (single d)
        (length (one_rail rail l) + k)) (rail-more rail l (suc k) x)
        ∙ ap (λ (n : ℕ). rails_timed (rails_at (one_rail rail (l ++ replicate (suc k) x))) (single p)
        (single d) (n + k)) (length-map l (λ y. both (rail y)))
        ∙ timed_rail (l ++ replicate (suc k) x) p d (length l + k)

-- ---- both rails

-- the element by the elements of both rails
pub by_rails : HistoryLaws → (l : List Rails) (p d : Ends) (t : ℕ) (must may : Bool)
    → both must ≡ rails_timed (rails_at (one_rail must_of l)) (single p.greatest) (single d.least) t
    → both may ≡ rails_timed (rails_at (one_rail may_of l)) (single p.least) (single d.greatest) t
    → AllSound l → p.least ≤ p.greatest → d.least ≤ d.greatest
    → record { must = must; may = must || may } ≡ rails_timed (rails_at l) p d t
by_rails laws l p d t must may is_must is_may sound p_ordered d_ordered =
    let whole : Rails = rails_timed (rails_at l) p d t in
    let em : must ≡ whole.must =
    ap must_of (is_must ∙ timed_rail laws must_of must_reads l p.greatest d.least t) in
    let ey : may ≡ whole.may =
    ap must_of (is_may ∙ timed_rail laws may_of may_reads l p.least d.greatest t) in
    ap (λ (v : Bool). record { must = v; may = v || may }) em
    ∙ ap (λ (v : Bool). record { must = whole.must; may = whole.must || v }) ey
    ∙ ap (λ (v : Bool). record { must = whole.must; may = v })
    (may_alone whole (laws.rails_sound.timed (rails_at l) p d t p_ordered d_ordered
    (λ r _. sound_at l r sound)))

-- ---- the lesser of two times

-- answers that are both rails of a value that is known, and those that have one rail of each
module _ (lanes : ℕ) (f g answer : ℕ → ℕ → Rails)
    (f_known : (lane k : ℕ) → lane < lanes → f lane k ≡ both (f lane k).must)
    (g_known : (lane k : ℕ) → lane < lanes → g lane k ≡ both (g lane k).must)
    (is : (lane k : ℕ) → lane < lanes
    → answer lane k ≡ record { must = (f lane k).must; may = (g lane k).must }) where
  must_same : (m : ℕ) → ((lane k : ℕ) → lane < lanes → k < m → answer lane k ≡ answer lane 0)
      → (lane k : ℕ) → lane < lanes → k < m → f lane k ≡ f lane 0
  must_same m same lane k inside lt =
      f_known lane k inside
      ∙ ap (λ (x : Rails). both x.must)
      (sym (is lane k inside) ∙ same lane k inside lt ∙ is lane 0 inside)
      ∙ sym (f_known lane 0 inside)

  may_same : (m : ℕ) → ((lane k : ℕ) → lane < lanes → k < m → answer lane k ≡ answer lane 0)
      → (lane k : ℕ) → lane < lanes → k < m → g lane k ≡ g lane 0
  may_same m same lane k inside lt =
      g_known lane k inside
      ∙ ap (λ (x : Rails). both x.may)
      (sym (is lane k inside) ∙ same lane k inside lt ∙ is lane 0 inside)
      ∙ sym (g_known lane 0 inside)

  pub lesser_steady : (n a b : ℕ) → n ≡ min a b → IsSteadyFor lanes f a → IsSteadyFor lanes g b
      → IsSteadyFor lanes answer n
  lesser_steady n a b e must may = record {
    some = let x = must.some in let y = may.some in omega arith;
    limited = let x = must.limited in omega arith;
    same = λ lane k inside lt.
        let la : k < a = omega arith in
        let lb : k < b = omega arith in
        is lane k inside
        ∙ ap (λ (v : Bool). record { must = v; may = (g lane k).must })
        (ap must_of (must.same lane k inside la))
        ∙ ap (λ (v : Bool). record { must = (f lane 0).must; may = v })
        (ap must_of (may.same lane k inside lb))
        ∙ sym (is lane 0 inside);
    greatest = λ m most same.
        let ma : m ≤ a = must.greatest m most (must_same m same) in
        let mb : m ≤ b = may.greatest m most (may_same m same) in
        omega arith;
  }
