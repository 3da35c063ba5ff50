-- For how long the answers of a rail stay the same, and several ticks at once.
use Rattle.std.proofs.Common.{◌≡◌, ℕ, zero, suc, ◌+◌, ◌-◌, ◌<◌, ◌≤◌, Bool, true, false, List, []}
use Rattle.std.proofs.Common.{◌∷◌, ◌++◌, length, length-append, max, replicate, refl, sym, ◌∙◌, ap}
use Rattle.std.proofs.Common.{subst, arith, inl, inr, ⊎_elim, ◌⊎◌, append_assoc}
use Rattle.std.proofs.lemmas.Bool.{cases_lt, false≢true}
use Rattle.std.proofs.lemmas.Bool.Decides.{nat_tests}
use Rattle.std.proofs.lemmas.List.{length-replicate, replicate_more}
use Rattle.std.specs.Prelude.{nat_lt, if◌then◌else◌}
use Rattle.model_history.specs.{Elements.timed, Recorded.at, Laws.HistoryLaws}
use Rattle.run_signal.specs.Cells.{CellNumbers, AreBounded, RailStandsFor, fresh_numbers}
use Rattle.run_signal.specs.Cells.{numbers_after}
use Rattle.run_signal.specs.Counts.{Counts, run_after, left_after, counts_after, counts, wait_of}
use Rattle.run_signal.specs.Counts.{steady_of}
use Rattle.run_signal.specs.Ahead.{next_on, IsRailSteadyFor}
use Rattle.run_signal.proofs.CountLaws.{counts-push, left_is_timed}

run_next : (p n run : ℕ) (on : Bool) → run_after p 1 (run_after p n run on) on ≡ run_after p
    (n + 1) run on
run_next p n run true = omega arith
run_next p n run false = refl

-- a hold goes on for as long as the input does
left_next_on : (p d n run left : ℕ) →
    left_after p d 1 (run_after p (n + 1) run true) (left_after p d n (run_after p n run true) left)
    ≡ left_after p d (n + 1) (run_after p (n + 1) run true) left
left_next_on p d n run left = grind (arith, nat_tests)

left_next_off : (p d n run left : ℕ) →
    left_after p d 1 0 (left_after p d n 0 left) ≡ left_after p d (n + 1) 0 left
left_next_off p d n run left = grind (arith, nat_tests)

counts_next : (p d n : ℕ) (c : Counts) (on : Bool) →
    counts_after p d 1 (counts_after p d n c on) on ≡ counts_after p d (n + 1) c on
counts_next p d n c true =
    ap (λ (r : ℕ). record {
      run = r;
      left = left_after p d 1 r (left_after p d n (run_after p n c.run true) c.left);
    }) (run_next p n c.run true)
    ∙ ap (λ (k : ℕ). record { run = run_after p (n + 1) c.run true; left = k })
    (left_next_on p d n c.run c.left)
counts_next p d n c false = ap (λ (k : ℕ). record { run = 0; left = k })
    (left_next_off p d n c.run c.left)

-- the counts after n more ticks with one input
pub counts-replicate : (p d : ℕ) (l : List Bool) (x : Bool) (n : ℕ) →
    counts p d (l ++ replicate (suc n) x) ≡ counts_after p d (suc n) (counts p d l) x
counts-replicate p d l x zero = counts-push p d l x
counts-replicate p d l x (suc n) =
    let e : suc n + 1 ≡ suc (suc n) = omega arith in
    ap (λ (k : List Bool). counts p d (l ++ k))
    (ap (λ (m : ℕ). replicate m x) (sym e) ∙ sym (replicate_more (suc n) x))
    ∙ ap (counts p d) (sym (append_assoc l (replicate (suc n) x) (x ∷ [])))
    ∙ counts-push p d (l ++ replicate (suc n) x) x
    ∙ ap (λ (c : Counts). counts_after p d 1 c x) (counts-replicate p d l x n)
    ∙ counts_next p d (suc n) (counts p d l) x
    ∙ ap (λ (m : ℕ). counts_after p d m (counts p d l) x) e

module _ (laws : HistoryLaws) where
  -- the answer at the k-th of the next ticks, by the counts
  pub next_is_left : (p d : ℕ) (l : List Bool) (x : Bool) (k : ℕ) →
      next_on p d l x k ≡ nat_lt 0 (counts_after p d (suc k) (counts p d l) x).left
  next_is_left p d l x zero =
      ap (timed (at (l ++ x ∷ [])) p d) (let e : length l + 0 ≡ length l = omega arith in e)
      ∙ sym (left_is_timed laws p d l x) ∙ ap (λ (c : Counts). nat_lt 0 c.left)
      (counts-replicate p d l x zero)
  next_is_left p d l x (suc k) =
      let e : suc k + 1 ≡ suc (suc k) = omega arith in
      let longer : l ++ replicate (suc (suc k)) x ≡ (l ++ replicate (suc k) x) ++ x ∷ [] =
      ap (λ (r : List Bool). l ++ r) (ap (λ (m : ℕ). replicate m x) (sym e)
      ∙ sym (replicate_more (suc k) x)) ∙ sym (append_assoc l (replicate (suc k) x) (x ∷ [])) in
      ap (λ (r : List Bool). timed (at r) p d (length l + suc k)) longer
      ∙ ap (timed (at ((l ++ replicate (suc k) x) ++ x ∷ [])) p d)
      (let f : length l + suc k ≡ length (l ++ replicate (suc k) x) =
      omega (arith, length-append l (replicate (suc k) x), length-replicate (suc k) x) in f)
      ∙ sym (left_is_timed laws p d (l ++ replicate (suc k) x) x)
      ∙ ap (λ (r : List Bool). nat_lt 0 (counts p d r).left) (sym longer)
      ∙ ap (λ (c : Counts). nat_lt 0 c.left) (counts-replicate p d l x (suc k))

  -- an answer that is on from `wait` on, and on for as long as ticks are left
  module _ (f : ℕ → Bool) (wait left : ℕ)
      (on : (k : ℕ) → k < 4000 → (wait ≤ k) ⊎ (k + 1 < left) → f k ≡ true)
      (off : (k : ℕ) → k < 4000 → k < wait → left ≤ k + 1 → f k ≡ false) where
    on_throughout : wait < max left 1 → (k : ℕ) → k < 4000 → f k ≡ true
    on_throughout e k lt = on k lt (⊎_elim (λ early. inr (omega arith)) (λ late. inl late)
        (cases_lt k wait))

    pub steady_throughout : wait < max left 1 → IsRailSteadyFor f 4000
    steady_throughout e = record {
      some = omega arith;
      limited = omega arith;
      same = λ k lt. on_throughout e k lt ∙ sym (on_throughout e 0 (omega arith));
      changes = λ h. absurd (omega arith);
    }

    pub steady_until_left : left ≤ wait → 1 < left → left ≤ 4001 → IsRailSteadyFor f (left - 1)
    steady_until_left low more most = record {
      some = omega arith;
      limited = omega arith;
      same = λ k lt. on k (omega arith) (inr (omega arith))
          ∙ sym (on 0 (omega arith) (inr (omega arith)));
      changes = λ below e. false≢true (sym (off (left - 1) below (omega arith) (omega arith)) ∙ e
          ∙ on 0 (omega arith) (inr (omega arith)));
    }

    pub steady_until_wait : left ≤ 1 → 0 < wait → wait ≤ 4000 → IsRailSteadyFor f wait
    steady_until_wait few some most = record {
      some = omega arith;
      limited = most;
      same = λ k lt. off k (omega arith) lt (omega arith)
          ∙ sym (off 0 (omega arith) some (omega arith));
      changes = λ below e. false≢true (sym (off 0 (omega arith) some (omega arith)) ∙ sym e
          ∙ on wait below (inl (omega arith)));
    }

  -- the number that is computed, in each of its cases
  abbrev steady_at : ℕ → ℕ → ℕ
  steady_at wait left = if nat_lt wait (max left 1) then 4000 else
      (if nat_lt 1 left then left - 1 else wait)

  computed_throughout : (wait left : ℕ) → wait < max left 1 → steady_at wait left ≡ 4000
  computed_throughout wait left h = grind (arith, nat_tests)

  computed_left : (wait left : ℕ) → max left 1 ≤ wait → 1 < left → steady_at wait left ≡ left - 1
  computed_left wait left h more = grind (arith, nat_tests)

  computed_wait : (wait left : ℕ) → max left 1 ≤ wait → left ≤ 1 → steady_at wait left ≡ wait
  computed_wait wait left h few = grind (arith, nat_tests)

  steady_by_cases : (f : ℕ → Bool) (wait left : ℕ) →
      ((k : ℕ) → k < 4000 → (wait ≤ k) ⊎ (k + 1 < left) → f k ≡ true) →
      ((k : ℕ) → k < 4000 → k < wait → left ≤ k + 1 → f k ≡ false) → wait ≤ 4000 → left ≤ 4001 →
      IsRailSteadyFor f (steady_at wait left)
  steady_by_cases f wait left on off limited most =
      let P : ℕ → Type 0 = λ n. IsRailSteadyFor f n in
      ⊎_elim
      (λ soon. subst P (sym (computed_throughout wait left soon))
      (steady_throughout f wait left on off soon))
      (λ late. ⊎_elim
      (λ more. subst P (sym (computed_left wait left late more))
      (steady_until_left f wait left on off (omega arith) more most))
      (λ few. subst P (sym (computed_wait wait left late few))
      (steady_until_wait f wait left on off few (omega arith) limited))
      (cases_lt 1 left))
      (cases_lt wait (max left 1))

  wait_limited : (p run : ℕ) (x : Bool) → p ≤ 4000 → wait_of p run x ≤ 4000
  wait_limited p run true h = omega arith
  wait_limited p run false h = omega arith

  on_by_hold : (p d run left k : ℕ) → p ≤ run + k →
      nat_lt 0 (left_after p d (suc k) (run_after p (suc k) run true) left) ≡ true
  on_by_hold p d run left k h = grind (arith, nat_tests)

  on_by_left : (p d run left k : ℕ) (x : Bool) → k + 1 < left →
      nat_lt 0 (left_after p d (suc k) (run_after p (suc k) run x) left) ≡ true
  on_by_left p d run left k true h = grind (arith, nat_tests)
  on_by_left p d run left k false h = grind (arith, nat_tests)

  off_by_both : (p d run left k : ℕ) → run + k < p → left ≤ k + 1 →
      nat_lt 0 (left_after p d (suc k) (run_after p (suc k) run true) left) ≡ false
  off_by_both p d run left k h i = grind (arith, nat_tests)

  off_by_left : (p d run left k : ℕ) → left ≤ k + 1 →
      nat_lt 0 (left_after p d (suc k) (run_after p (suc k) run false) left) ≡ false
  off_by_left p d run left k i = grind (arith, nat_tests)

  -- what the numbers of a rail that stand for its history tell of the next ticks
  module _ (c : CellNumbers) (p d : ℕ) (l : List Bool) (h : RailStandsFor c p d l) where
    next_is_on : (x : Bool) (k : ℕ) → k < 4000 → (wait_of c.pickup c.run x ≤ k) ⊎ (k + 1 < c.left) →
        next_on p d l x k ≡ true
    next_is_on true k small h' =
        let a : c.pickup ≡ p = h.pickup_is in let b : c.run ≡ (counts p d l).run = h.run_is in
        let e : c.left ≡ (counts p d l).left = h.left_is in
        next_is_left p d l true k ∙ ⊎_elim (λ hold. on_by_hold p d (counts p d l).run
        (counts p d l).left k (omega arith))
        (λ more. on_by_left p d (counts p d l).run (counts p d l).left k true (omega arith)) h'
    next_is_on false k small h' =
        let e : c.left ≡ (counts p d l).left = h.left_is in
        next_is_left p d l false k ∙ ⊎_elim (λ late. absurd (omega arith))
        (λ more. on_by_left p d (counts p d l).run (counts p d l).left k false (omega arith)) h'

    next_is_off : (x : Bool) (k : ℕ) → k < 4000 → k < wait_of c.pickup c.run x → c.left ≤ k + 1 →
        next_on p d l x k ≡ false
    next_is_off true k small early few =
        let a : c.pickup ≡ p = h.pickup_is in let b : c.run ≡ (counts p d l).run = h.run_is in
        let e : c.left ≡ (counts p d l).left = h.left_is in
        next_is_left p d l true k ∙ off_by_both p d (counts p d l).run (counts p d l).left k
        (omega arith) (omega arith)
    next_is_off false k small early few =
        let e : c.left ≡ (counts p d l).left = h.left_is in
        next_is_left p d l false k ∙ off_by_left p d (counts p d l).run (counts p d l).left k
        (omega arith)

    -- the answers stay the same for as long as is computed
    pub steady_from_numbers : AreBounded c → (x : Bool) →
        IsRailSteadyFor (next_on p d l x) (steady_of c.pickup c.run c.left x)
    steady_from_numbers bounded x = steady_by_cases (next_on p d l x)
        (wait_of c.pickup c.run x) c.left (next_is_on x) (next_is_off x)
        (wait_limited c.pickup c.run x bounded.pickup)
        (let a : c.left ≤ c.dropout + 1 = bounded.left in
        let b : c.dropout ≤ 4000 = bounded.dropout in omega arith)

-- numbers that counted n more ticks stand for the longer history
pub standing_skip : (c : CellNumbers) (p d n : ℕ) (l : List Bool) (x : Bool) →
    RailStandsFor c p d l → 1 ≤ n → RailStandsFor (numbers_after n c x) p d (l ++ replicate n x)
standing_skip c p d zero l x h some = absurd (omega arith)
standing_skip c p d (suc n) l x h some =
    let e : counts_after c.pickup c.dropout (suc n)
    (record { run = c.run; left = c.left }) x ≡ counts p d (l ++ replicate (suc n) x) =
    ap (λ (a : ℕ). counts_after a c.dropout (suc n)
    (record { run = c.run; left = c.left }) x) h.pickup_is
    ∙ ap (λ (a : ℕ). counts_after p a (suc n)
    (record { run = c.run; left = c.left }) x) h.dropout_is
    ∙ ap (λ (a : ℕ). counts_after p d (suc n) (record { run = a; left = c.left }) x) h.run_is
    ∙ ap (λ (a : ℕ). counts_after p d (suc n)
    (record { run = (counts p d l).run; left = a }) x) h.left_is
    ∙ sym (counts-replicate p d l x n) in
    record {
      pickup_is = h.pickup_is;
      dropout_is = h.dropout_is;
      run_is = ap (λ (k : Counts). k.run) e;
      left_is = ap (λ (k : Counts). k.left) e;
    }

-- numbers before the first tick stand for nothing
pub standing_fresh : (p d : ℕ) → RailStandsFor (fresh_numbers p d) p d []
standing_fresh p d = record { pickup_is = refl; dropout_is = refl; run_is = refl; left_is = refl }

-- the bounds are kept
pub bounded_after : (c : CellNumbers) (n : ℕ) (x : Bool) → AreBounded c →
    AreBounded (numbers_after n c x)
bounded_after c n true h = let a : c.run ≤ c.pickup + 1 = h.run in
    let b : c.left ≤ c.dropout + 1 = h.left in record {
      pickup = h.pickup;
      dropout = h.dropout;
      run = grind (arith, nat_tests);
      left = grind (arith, nat_tests);
    }
bounded_after c n false h = let a : c.run ≤ c.pickup + 1 = h.run in
    let b : c.left ≤ c.dropout + 1 = h.left in record {
      pickup = h.pickup;
      dropout = h.dropout;
      run = omega arith;
      left = grind (arith, nat_tests);
    }
