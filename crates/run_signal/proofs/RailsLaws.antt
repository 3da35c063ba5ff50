-- From the numbers of both rails, in each lane, to the rails of the signal.
use Rattle.std.proofs.Common.{◌≡◌, ℕ, zero, suc, ◌+◌, ◌<◌, ◌≤◌, ◌⊎◌, ⊎_elim, inl, inr, min}
use Rattle.std.proofs.Common.{replicate, Bool, List, [], ◌∷◌, ◌++◌, length, map, refl, sym, ◌∙◌, ap}
use Rattle.std.proofs.Common.{subst, arith}
use Rattle.std.proofs.lemmas.Bool.{cases_lt}
use Rattle.std.proofs.lemmas.List.{map-append, length-map}
use Rattle.std.specs.Prelude.{nat_lt}
use Rattle.model_history.specs.Rails.{Rails, Ends, IsSound, must_of, may_of, rails_timed}
use Rattle.model_history.specs.Rails.{rails_at}
use Rattle.model_history.specs.{Elements.timed, Recorded.at, Laws.HistoryLaws}
use Rattle.model_history.specs.RailLaws.{must_at, may_at}
use Rattle.run_signal.specs.Counts.{steady_of}
use Rattle.run_signal.specs.Cells.{CellNumbers, AreBounded, RailStandsFor, RailsStandFor}
use Rattle.run_signal.specs.Cells.{fresh_numbers, numbers_after}
use Rattle.run_signal.specs.Ahead.{next_on, next_rails, IsSteadyFor, IsRailSteadyFor}
use Rattle.run_signal.proofs.CountLaws.{timed_of_standing}
use Rattle.run_signal.proofs.AheadLaws.{standing_fresh, standing_skip, steady_from_numbers}
use Rattle.run_signal.specs.SoundLaws.{sound_at, sound_more}

-- ---- what must be may be, at each tick

-- ---- one rail of a list of rails

map-replicate : (f : Rails → Bool) (n : ℕ) (x : Rails) → map f (replicate n x) ≡ replicate n (f x)
map-replicate f zero x = refl
map-replicate f (suc n) x = ap (λ (l : List Bool). f x ∷ l) (map-replicate f n x)

map-append_replicate : (f : Rails → Bool) (l : List Rails) (x : Rails) (n : ℕ) →
    map f l ++ replicate n (f x) ≡ map f (l ++ replicate n x)
map-append_replicate f l x n = ap (λ (k : List Bool). map f l ++ k) (sym (map-replicate f n x))
    ∙ sym (map-append f l (replicate n x))

-- numbers that counted n more ticks of the rail
rail_skip : (f : Rails → Bool) (c : CellNumbers) (p d : ℕ) (l : List Rails) (x : Rails) (n : ℕ) →
    RailStandsFor c p d (map f l) → 1 ≤ n →
    RailStandsFor (numbers_after n c (f x)) p d (map f (l ++ replicate n x))
rail_skip f c p d l x n h some =
    let P : List Bool → Type 0 = λ k. RailStandsFor (numbers_after n c (f x)) p d k in
    subst P (map-append_replicate f l x n) (standing_skip c p d n (map f l) (f x) h some)

module _ (laws : HistoryLaws) (f : Rails → Bool)
    (reads : (l : List Rails) (r : ℕ) → at (map f l) r ≡ f (rails_at l r)) where
  -- the element at the last tick, by the numbers
  rail_answer : (c : CellNumbers) (p d : ℕ) (l : List Rails) (x : Rails) →
      RailStandsFor c p d (map f (l ++ x ∷ [])) →
      nat_lt 0 c.left ≡ timed (λ r. f (rails_at (l ++ x ∷ []) r)) p d (length l)
  rail_answer c p d l x h =
      let P : List Bool → Type 0 = λ k. RailStandsFor c p d k in
      timed_of_standing laws c p d (map f l) (f x) (subst P (map-append f l (x ∷ [])) h)
      ∙ ap (λ (k : List Bool). timed (at k) p d (length (map f l))) (sym (map-append f l (x ∷ [])))
      ∙ ap (timed (at (map f (l ++ x ∷ []))) p d) (length-map l f)
      ∙ laws.elements_past.timed (at (map f (l ++ x ∷ []))) (λ r. f (rails_at (l ++ x ∷ []) r)) p d (length l)
      (λ r _. reads (l ++ x ∷ []) r)

  -- the element at the k-th of the next ticks
  rail_next : (p d : ℕ) (l : List Rails) (x : Rails) (k : ℕ) →
      next_on p d (map f l) (f x) k
      ≡ timed (λ r. f (rails_at (l ++ replicate (suc k) x) r)) p d (length l + k)
  rail_next p d l x k =
      ap (λ (r : List Bool). timed (at r) p d (length (map f l) + k))
      (map-append_replicate f l x (suc k))
      ∙ ap (λ (n : ℕ). timed (at (map f (l ++ replicate (suc k) x))) p d (n + k)) (length-map l f)
      ∙ laws.elements_past.timed (at (map f (l ++ replicate (suc k) x)))
      (λ r. f (rails_at (l ++ replicate (suc k) x) r)) p d (length l + k)
      (λ r _. reads (l ++ replicate (suc k) x) r)

-- ---- both rails in one lane

pub rails_fresh : (p d : Ends) → p.least ≤ p.greatest → d.least ≤ d.greatest →
    RailsStandFor (fresh_numbers p.greatest d.least) (fresh_numbers p.least d.greatest) p d []
rails_fresh p d pickup dropout = record {
  must_stands = standing_fresh p.greatest d.least;
  may_stands = standing_fresh p.least d.greatest;
  pickup_ordered = pickup;
  dropout_ordered = dropout;
  sound = tt;
}

-- the numbers of both rails counted n more ticks
pub rails_skip : (m n : CellNumbers) (p d : Ends) (l : List Rails) (x : Rails) (count : ℕ) →
    IsSound x → 1 ≤ count → RailsStandFor m n p d l →
    RailsStandFor (numbers_after count m x.must) (numbers_after count n x.may) p d
    (l ++ replicate count x)
rails_skip m n p d l x count now some h = record {
  must_stands = rail_skip must_of m p.greatest d.least l x count h.must_stands some;
  may_stands = rail_skip may_of n p.least d.greatest l x count h.may_stands some;
  pickup_ordered = h.pickup_ordered;
  dropout_ordered = h.dropout_ordered;
  sound = sound_more l x count h.sound now;
}

-- the same, where the numbers and the input's rails are known by equations
pub rails_skipped : (m n m' n' : CellNumbers) (p d : Ends) (l : List Rails) (x : Rails) (a b : Bool)
    (count : ℕ) → IsSound x → 1 ≤ count → a ≡ x.must → b ≡ x.may → m' ≡ numbers_after count m a →
    n' ≡ numbers_after count n b → RailsStandFor m n p d l →
    RailsStandFor m' n' p d (l ++ replicate count x)
rails_skipped m n m' n' p d l x a b count now some ea eb em en h =
    let P : CellNumbers → Type 0 = λ k. RailsStandFor k n' p d (l ++ replicate count x) in
    let Q : CellNumbers → Type 0 =
    λ k. RailsStandFor (numbers_after count m x.must) k p d (l ++ replicate count x) in
    subst P (sym (em ∙ ap (numbers_after count m) ea))
    (subst Q (sym (en ∙ ap (numbers_after count n) eb)) (rails_skip m n p d l x count now some h))

-- whether the elements of both rails are on, by their numbers
abbrev pub answer_of : CellNumbers → CellNumbers → Rails
answer_of m n = record { must = nat_lt 0 m.left; may = nat_lt 0 n.left }

pub rails_answer : HistoryLaws → (m n : CellNumbers) (p d : Ends) (l : List Rails) (x : Rails) →
    RailsStandFor m n p d (l ++ x ∷ []) →
    answer_of m n ≡ rails_timed (rails_at (l ++ x ∷ [])) p d (length l)
rails_answer laws m n p d l x h =
    ap (λ (v : Bool). record { must = v; may = nat_lt 0 n.left })
    (rail_answer laws must_of must_at m p.greatest d.least l x h.must_stands)
    ∙ ap (λ (v : Bool). record {
      must = timed (λ r. (rails_at (l ++ x ∷ []) r).must) p.greatest d.least (length l);
      may = v;
    })
    (rail_answer laws may_of may_at n p.least d.greatest l x h.may_stands)

pub answer_sound : HistoryLaws → (m n : CellNumbers) (p d : Ends) (l : List Rails) (x : Rails) →
    RailsStandFor m n p d (l ++ x ∷ []) → IsSound (answer_of m n)
answer_sound laws m n p d l x h =
    let P : Rails → Type 0 = λ y. IsSound y in
    subst P (sym (rails_answer laws m n p d l x h))
    (laws.rails_sound.timed (rails_at (l ++ x ∷ [])) p d (length l) h.pickup_ordered h.dropout_ordered
    (λ r _. sound_at (l ++ x ∷ []) r h.sound))

-- the next answers of both rails, from those of each
next_rails_is : HistoryLaws → (p d : Ends) (l : List Rails) (x : Rails) (k : ℕ) →
    next_rails p d l x k ≡ record {
      must = next_on p.greatest d.least (map must_of l) x.must k;
      may = next_on p.least d.greatest (map may_of l) x.may k;
    }
next_rails_is laws p d l x k =
    ap (λ (v : Bool). record {
      must = v;
      may = timed (λ r. (rails_at (l ++ replicate (suc k) x) r).may) p.least d.greatest
          (length l + k);
    }) (sym (rail_next laws must_of must_at p.greatest d.least l x k))
    ∙ ap (λ (v : Bool). record {
      must = next_on p.greatest d.least (map must_of l) x.must k;
      may = v;
    }) (sym (rail_next laws may_of may_at p.least d.greatest l x k))

-- ---- all lanes together

-- all lanes are steady for the least of the times for which each rail is
module _ (lanes : ℕ) (f g : ℕ → ℕ → Bool) (a b : ℕ → ℕ) (answer : ℕ → ℕ → Rails)
    (is : (lane k : ℕ) → lane < lanes → answer lane k ≡ record { must = f lane k; may = g lane k })
    (must_steady : (lane : ℕ) → lane < lanes → IsRailSteadyFor (f lane) (a lane))
    (may_steady : (lane : ℕ) → lane < lanes → IsRailSteadyFor (g lane) (b lane)) where
  same_rail : (rail : Rails → Bool) (lane m : ℕ) → lane < lanes →
      ((l k : ℕ) → l < lanes → k < m → answer l k ≡ answer l 0) → (k : ℕ) → k < m →
      rail (record { must = f lane k; may = g lane k })
      ≡ rail (record { must = f lane 0; may = g lane 0 })
  same_rail rail lane m inside same k lt = ap rail
      (sym (is lane k inside) ∙ same lane k inside lt ∙ is lane 0 inside)

  -- no longer time leaves all answers equal
  no_longer : (n lane : ℕ) → lane < lanes → (n ≡ a lane) ⊎ (n ≡ b lane) → (m : ℕ) → m ≤ 4000 →
      ((l k : ℕ) → l < lanes → k < m → answer l k ≡ answer l 0) → n < m → ⊥
  no_longer n lane inside met m most same more = ⊎_elim
      (λ first. (must_steady lane inside).changes (omega arith)
      (same_rail must_of lane m inside same (a lane) (omega arith)))
      (λ second. (may_steady lane inside).changes (omega arith)
      (same_rail may_of lane m inside same (b lane) (omega arith)))
      met

  pub least_steady : (n : ℕ) → n ≤ 4000 →
      ((lane : ℕ) → lane < lanes → (n ≤ a lane) × (n ≤ b lane)) →
      (n < 4000 → (lane : ℕ) × (lane < lanes) × ((n ≡ a lane) ⊎ (n ≡ b lane))) →
      IsSteadyFor lanes answer n
  least_steady n limited under met = record {
    some = ⊎_elim
        (λ lt. let at_lane : (lane : ℕ) × (lane < lanes) × ((n ≡ a lane) ⊎ (n ≡ b lane)) = met lt in
        ⊎_elim
        (λ first. let some : 1 ≤ a at_lane.0 = (must_steady at_lane.0 at_lane.1).some in
        omega arith)
        (λ second. let some : 1 ≤ b at_lane.0 = (may_steady at_lane.0 at_lane.1).some in
        omega arith)
        at_lane.2)
        (λ le. omega arith)
        (cases_lt n 4000);
    limited = limited;
    same = λ lane k inside lt.
        let low : n ≤ a lane = (under lane inside).0 in
        let low' : n ≤ b lane = (under lane inside).1 in
        is lane k inside
        ∙ ap (λ (v : Bool). record { must = v; may = g lane k })
        ((must_steady lane inside).same k (omega arith))
        ∙ ap (λ (v : Bool). record { must = f lane 0; may = v })
        ((may_steady lane inside).same k (omega arith))
        ∙ sym (is lane 0 inside);
    greatest = λ m most same. ⊎_elim
        (λ more. let at_lane : (lane : ℕ) × (lane < lanes) × ((n ≡ a lane) ⊎ (n ≡ b lane)) =
        met (omega arith) in
        absurd (no_longer n at_lane.0 at_lane.1 at_lane.2 m most same more))
        (λ le. le)
        (cases_lt n m);
  }

-- for how many ticks with this input the answers of a rail stay the same
abbrev pub rail_time : CellNumbers → Bool → ℕ
rail_time c on = steady_of c.pickup c.run c.left on

-- the cells of all lanes, from the numbers of both rails in each
pub rails_steady : HistoryLaws → (lanes : ℕ) (m n : ℕ → CellNumbers) (p d : ℕ → Ends) (inputs : ℕ → List Rails)
    (x : ℕ → Rails) (steps : ℕ) →
    ((lane : ℕ) → lane < lanes → RailsStandFor (m lane) (n lane) (p lane) (d lane) (inputs lane)) →
    ((lane : ℕ) → lane < lanes → AreBounded (m lane) × AreBounded (n lane)) →
    steps ≤ 4000 →
    ((lane : ℕ) → lane < lanes →
    (steps ≤ rail_time (m lane) (x lane).must) × (steps ≤ rail_time (n lane) (x lane).may)) →
    (steps < 4000 → (lane : ℕ) × (lane < lanes) ×
    ((steps ≡ rail_time (m lane) (x lane).must) ⊎ (steps ≡ rail_time (n lane) (x lane).may))) →
    IsSteadyFor lanes (λ lane k. next_rails (p lane) (d lane) (inputs lane) (x lane) k) steps
rails_steady laws lanes m n p d inputs x steps stands bounded limited under met =
    least_steady lanes
    (λ lane. next_on (p lane).greatest (d lane).least (map must_of (inputs lane)) (x lane).must)
    (λ lane. next_on (p lane).least (d lane).greatest (map may_of (inputs lane)) (x lane).may)
    (λ lane. rail_time (m lane) (x lane).must)
    (λ lane. rail_time (n lane) (x lane).may)
    (λ lane k. next_rails (p lane) (d lane) (inputs lane) (x lane) k)
    (λ lane k _. next_rails_is laws (p lane) (d lane) (inputs lane) (x lane) k)
    (λ lane inside. steady_from_numbers laws (m lane) (p lane).greatest (d lane).least
    (map must_of (inputs lane)) (stands lane inside).must_stands (bounded lane inside).0
    (x lane).must)
    (λ lane inside. steady_from_numbers laws (n lane) (p lane).least (d lane).greatest
    (map may_of (inputs lane)) (stands lane inside).may_stands (bounded lane inside).1
    (x lane).may)
    steps limited under met

-- ---- the lesser of two times

pub least_of_two : (n a b x y : ℕ) → n ≡ min a b → a ≡ x → b ≡ y → (n ≤ x) × (n ≤ y)
least_of_two n a b x y e f g = (omega arith, omega arith)

pub one_of_two : (n a b x y : ℕ) → n ≡ min a b → a ≡ x → b ≡ y → (n ≡ x) ⊎ (n ≡ y)
one_of_two n a b x y e f g = ⊎_elim (λ lt. inl (omega arith)) (λ le. inr (omega arith))
    (cases_lt a b)
