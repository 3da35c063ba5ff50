-- The counts of a rail are right for histories of every length.
use Rattle.std.proofs.Common.{◌≡◌, ℕ, zero, suc, ◌+◌, ◌-◌, ◌<◌, ◌≤◌, Bool, true, false, cond, List}
use Rattle.std.proofs.Common.{[], ◌∷◌, ◌++◌, length, length-append, min, sym, ◌∙◌, ap, subst, arith}
use Rattle.std.proofs.Common.{⊎_elim}
use Rattle.std.proofs.lemmas.Bool.{ltb-true, ltb-false, cases_lt, cases_Bool, false≢true}
use Rattle.std.proofs.lemmas.Bool.Decides.{Decides-ltb, same_from_decides, Decides-like}
use Rattle.std.proofs.lemmas.List.Sums.{fold-append}
use Rattle.std.specs.Prelude.{nat_lt}
use Rattle.model_history.specs.Elements.{Holds, IsTimed, timed}
use Rattle.model_history.specs.{Recorded.at, Recorded.first_ticks, Laws.HistoryLaws}
use Rattle.run_signal.specs.Cells.{CellNumbers, RailStandsFor}
use Rattle.run_signal.specs.Counts.{Counts, none, run_after, left_after, counts_after, counts}

-- what the run says of the first n ticks of u
record Runs (u : ℕ → Bool) (p n run : ℕ) : Type 0 where
  in_ticks : run ≤ n
  in_pickup : run ≤ p + 1
  on : (r : ℕ) → n ≤ r + run → r < n → u r ≡ true
  broken : (r : ℕ) → r + run + 1 ≡ n → run ≤ p → u r ≡ false

runs_on : (u : ℕ → Bool) (p n run : ℕ) → Runs u p n run → u n ≡ true →
    Runs u p (n + 1) (min (run + 1) (p + 1))
runs_on u p n run h now =
    let a : run ≤ n = h.in_ticks in
    let b : run ≤ p + 1 = h.in_pickup in
    record {
      in_ticks = omega arith;
      in_pickup = omega arith;
      on = λ r low high. ⊎_elim (λ lt. h.on r (omega arith) lt)
          (λ le. let e : r ≡ n = omega arith in ap u e ∙ now) (cases_lt r n);
      broken = λ r e le. h.broken r (omega arith) (omega arith);
    }

runs_off : (u : ℕ → Bool) (p n run : ℕ) → Runs u p n run → u n ≡ false → Runs u p (n + 1) 0
runs_off u p n run h now = record {
  in_ticks = omega arith;
  in_pickup = omega arith;
  on = λ r low high. absurd (omega arith);
  broken = λ r e le. let e' : r ≡ n = omega arith in ap u e' ∙ now;
}

runs_step : (u : ℕ → Bool) (p n run : ℕ) → Runs u p n run →
    Runs u p (n + 1) (run_after p 1 run (u n))
runs_step u p n run h =
    ⊎_elim
    (λ on. let P : Bool → Type 0 = λ b. Runs u p (n + 1) (run_after p 1 run b) in
    subst P (sym on) (runs_on u p n run h on))
    (λ off. let P : Bool → Type 0 = λ b. Runs u p (n + 1) (run_after p 1 run b) in
    subst P (sym off) (runs_off u p n run h off))
    (cases_Bool (u n))

-- a run longer than the pickup is a hold at the last tick
holds_from_run : (u : ℕ → Bool) (p n run : ℕ) → Runs u p (n + 1) run → p < run → Holds u p n
holds_from_run u p n run h long =
    let a : run ≤ n + 1 = h.in_ticks in
    record { late = omega arith; on = λ r low high. h.on r (omega arith) (omega arith) }

no_hold_from_run : (u : ℕ → Bool) (p n run : ℕ) → Runs u p (n + 1) run → run ≤ p → Holds u p n → ⊥
no_hold_from_run u p n run h short holds =
    let late : p ≤ n = holds.late in
    let e : (n - run) + run + 1 ≡ n + 1 = omega arith in
    false≢true (sym (h.broken (n - run) e short) ∙ holds.on (n - run) (omega arith) (omega arith))

-- how long the element stays on
record Lasts (u : ℕ → Bool) (p d n left : ℕ) : Type 0 where
  in_dropout : left ≤ d + 1
  last : 0 < left → (s : ℕ) × (s + d + 2 ≡ n + left) × Holds u p s
  latest : (s : ℕ) → s < n → Holds u p s → s + d + 2 ≤ n + left

lasts_anew : (u : ℕ → Bool) (p d n : ℕ) → Holds u p n → Lasts u p d (n + 1) (d + 1)
lasts_anew u p d n holds = record {
  in_dropout = omega arith;
  last = λ h. (n, omega arith, holds);
  latest = λ s lt _. omega arith;
}

lasts_on : (u : ℕ → Bool) (p d n left : ℕ) → Lasts u p d n left → (Holds u p n → ⊥) →
    Lasts u p d (n + 1) (left - 1)
lasts_on u p d n left h none_now =
    let a : left ≤ d + 1 = h.in_dropout in
    record {
      in_dropout = omega arith;
      last = λ more. (let pair : (s : ℕ) × (s + d + 2 ≡ n + left) × Holds u p s =
          h.last (omega arith) in let e : pair.0 + d + 2 ≡ n + left = pair.1 in
          (pair.0, omega arith, pair.2));
      latest = λ s lt holds. ⊎_elim
          (λ before. let le : s + d + 2 ≤ n + left = h.latest s before holds in omega arith)
          (λ not_before. let e : s ≡ n = omega arith in
          absurd (none_now (let P : ℕ → Type 0 = λ x. Holds u p x in subst P e holds)))
          (cases_lt s n);
    }

lasts_step : (u : ℕ → Bool) (p d n run left : ℕ) → Runs u p (n + 1) run → Lasts u p d n left →
    Lasts u p d (n + 1) (left_after p d 1 run left)
lasts_step u p d n run left runs h =
    ⊎_elim
    (λ long. let P : Bool → Type 0 = λ b. Lasts u p d (n + 1) (cond b (d + 1) (left - 1)) in
    subst P (sym long) (lasts_anew u p d n
    (holds_from_run u p n run runs (ltb-true p run long))))
    (λ short. let P : Bool → Type 0 = λ b. Lasts u p d (n + 1) (cond b (d + 1) (left - 1)) in
    subst P (sym short) (lasts_on u p d n left h
    (no_hold_from_run u p n run runs (ltb-false p run short))))
    (cases_Bool (nat_lt p run))

-- an element that lasts is on at the last tick
on_from_lasts : (u : ℕ → Bool) (p d n left : ℕ) → Lasts u p d (n + 1) left → 0 < left →
    IsTimed u p d n
on_from_lasts u p d n left h more =
    let pair : (s : ℕ) × (s + d + 2 ≡ (n + 1) + left) × Holds u p s = h.last more in
    let e : pair.0 + d + 2 ≡ (n + 1) + left = pair.1 in
    let le : left ≤ d + 1 = h.in_dropout in
    record { s = pair.0; past = omega arith; lasts = omega arith; holds = pair.2 }

lasts_from_on : (u : ℕ → Bool) (p d n left : ℕ) → Lasts u p d (n + 1) left → IsTimed u p d n →
    0 < left
lasts_from_on u p d n left h on =
    let past : on.s ≤ n = on.past in
    let lasts : n ≤ on.s + d = on.lasts in
    let le : on.s + d + 2 ≤ (n + 1) + left = h.latest on.s (omega arith) on.holds in omega arith

-- what the counts of the first n ticks say
record Counted (u : ℕ → Bool) (p d n : ℕ) (c : Counts) : Type 0 where
  runs : Runs u p n c.run
  lasts : Lasts u p d n c.left

pub counts-push : (p d : ℕ) (l : List Bool) (x : Bool) →
    counts p d (l ++ x ∷ []) ≡ counts_after p d 1 (counts p d l) x
counts-push p d l x = fold-append (counts_after p d 1) none l (x ∷ [])

counted : (u : ℕ → Bool) (p d n : ℕ) → Counted u p d n (counts p d (first_ticks u n))
counted u p d zero = record {
  runs = record {
    in_ticks = omega arith;
    in_pickup = omega arith;
    on = λ r low high. absurd (omega arith);
    broken = λ r e _. absurd (omega arith);
  };
  lasts = record {
    in_dropout = omega arith;
    last = λ h. absurd (omega arith);
    latest = λ s h _. absurd (omega arith);
  };
}
counted u p d (suc n) =
    let before : Counted u p d n (counts p d (first_ticks u n)) = counted u p d n in
    let c : Counts = counts p d (first_ticks u n) in
    let runs : Runs u p (n + 1) (run_after p 1 c.run (u n)) = runs_step u p n c.run before.runs in
    let lasts : Lasts u p d (n + 1) (left_after p d 1 (run_after p 1 c.run (u n)) c.left) =
    lasts_step u p d n (run_after p 1 c.run (u n)) c.left runs before.lasts in
    let P : Counts → Type 0 = λ k. Counted u p d (suc n) k in
    subst P (sym (counts-push p d (first_ticks u n) (u n)))
    (let e : n + 1 ≡ suc n = omega arith in record {
      runs = (let Q : ℕ → Type 0 = λ m. Runs u p m (run_after p 1 c.run (u n)) in subst Q e runs);
      lasts = (let Q : ℕ → Type 0 = λ m. Lasts u p d m
          (left_after p d 1 (run_after p 1 c.run (u n)) c.left) in subst Q e lasts);
    })

module _ (laws : HistoryLaws) where
  -- a count is what it is of the ticks that its list was recorded from
  counted_list : (p d : ℕ) (l : List Bool) → Counted (at l) p d (length l) (counts p d l)
  counted_list p d l = let P : List Bool → Type 0 =
      λ k. Counted (at l) p d (length l) (counts p d k) in
      subst P (laws.recordings.again l) (counted (at l) p d (length l))

  -- the element is on at the last tick exactly where some ticks are left
  pub left_is_timed : (p d : ℕ) (l : List Bool) (x : Bool) →
      nat_lt 0 (counts p d (l ++ x ∷ [])).left ≡ timed (at (l ++ x ∷ [])) p d (length l)
  left_is_timed p d l x =
      let u : ℕ → Bool = at (l ++ x ∷ []) in
      let left : ℕ = (counts p d (l ++ x ∷ [])).left in
      let e : length (l ++ x ∷ []) ≡ length l + 1 = length-append l (x ∷ []) in
      let lasts : Lasts u p d (length l + 1) left =
      (let Q : ℕ → Type 0 = λ m. Lasts u p d m left in
      subst Q e (counted_list p d (l ++ x ∷ [])).lasts) in
      same_from_decides (nat_lt 0 left) (timed u p d (length l))
      (Decides-like _ (on_from_lasts u p d (length l) left lasts)
      (lasts_from_on u p d (length l) left lasts) (Decides-ltb 0 left))
      (laws.elements.timed u p d (length l))

  -- numbers that stand for a history tell the element at its last tick
  pub timed_of_standing : (c : CellNumbers) (p d : ℕ) (l : List Bool) (x : Bool) →
      RailStandsFor c p d (l ++ x ∷ []) → nat_lt 0 c.left ≡ timed (at (l ++ x ∷ [])) p d (length l)
  timed_of_standing c p d l x h = ap (nat_lt 0) h.left_is ∙ left_is_timed p d l x
