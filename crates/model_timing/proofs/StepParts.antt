-- Ascending steps are parted at each parameter and tick: before it those that have passed.
use Rattle.std.proofs.Common.{◌≡◌, ◌&&◌, ◌==◌, ℕ, zero, suc, ◌-◌, ◌<◌, ◌≤◌, Bool, true, false, List}
use Rattle.std.proofs.Common.{[], ◌∷◌, length, get_or, refl, sym, ap, ◌∙◌, arith, ⊎_elim}
use Rattle.std.proofs.lemmas.Bool.{cases_lt}
use Rattle.std.proofs.lemmas.Bool.Decides.{nat_tests}
use Rattle.std.proofs.lemmas.List.{get_or_default}
use Rattle.std.proofs.lemmas.List.Folds.{list_any_at, list_any_none}
use Rattle.std.proofs.lemmas.List.Sums.{position_or_len_is}
use Rattle.std.specs.Prelude.{IsTrue, IsFalse}
use Rattle.std.specs.List.{list_any, position_or_len}
use Rattle.std.specs.List.Sorted.{IsPartitionedBy, IsPartitionPoint}
use Rattle.model_timing.specs.declared.step.Step.{Step}
use Rattle.model_timing.specs.Timing.{comes_before, ascend, is_passed}
use Rattle.model_timing.specs.LatestStepLaws.{ascend-tail, all_after}

-- the step is of the parameter and at the tick
abbrev pub is_at : ℕ → ℕ → Step ℕ → Bool
is_at param from s = (s.param == param) && (s.from == from)

-- ---- one step, or two

passed_is_not_behind : (s x : Step ℕ) → is_passed s.param s.from x ≡ true
    → comes_before s x ≡ false
passed_is_not_behind s x passed = grind (arith, nat_tests)

other_is_behind : (s x : Step ℕ) → is_passed s.param s.from x ≡ false → comes_before s x ≡ true
other_is_behind s x late = grind (arith, nat_tests)

passed_before : (param from : ℕ) (x y : Step ℕ) → comes_before x y ≡ true
    → is_passed param from y ≡ true → is_passed param from x ≡ true
passed_before param from x y before passed = grind (arith, nat_tests)

late_is_not_at : (param from : ℕ) (x : Step ℕ) → is_passed param from x ≡ false
    → is_at param from x ≡ false
late_is_not_at param from x late = grind (arith, nat_tests)

earlier_is_not_at : (param from : ℕ) (x y : Step ℕ) → comes_before x y ≡ true
    → is_passed param from y ≡ true → is_at param from x ≡ false
earlier_is_not_at param from x y before passed = grind (arith, nat_tests)

-- ---- ascending steps

ascend_at : (xs : List (Step ℕ)) (i j : ℕ) (d : Step ℕ) → ascend xs ≡ true → i < j
    → j < length xs → comes_before (get_or xs i d) (get_or xs j d) ≡ true
ascend_at [] i j d up order inside = absurd (omega arith)
ascend_at (x ∷ xs) i zero d up order inside = absurd (omega arith)
ascend_at (x ∷ xs) zero (suc j) d up order inside = all_after x xs up j d (omega arith)
ascend_at (x ∷ xs) (suc i) (suc j) d up order inside =
    ascend_at xs i j d (ascend-tail x xs up) (omega arith) (omega arith)

pub parted : (xs : List (Step ℕ)) (param from : ℕ) → ascend xs ≡ true
    → IsPartitionedBy (is_passed param from) xs
parted xs param from up i j d order inside passed =
    ⊎_elim
    (λ less. passed_before param from (get_or xs i d) (get_or xs j d)
    (ascend_at xs i j d up less inside) passed)
    (λ more. let same : j ≡ i = omega arith in
    ap (λ (k : ℕ). is_passed param from (get_or xs k d)) (sym same) ∙ passed)
    (cases_lt i j)

-- those that have passed stand before place i
abbrev pub PartsAt : List (Step ℕ) → ℕ → ℕ → ℕ → Type 0
PartsAt xs param from i =
    IsPartitionPoint (λ s. IsTrue (is_passed param from s)) (λ s. IsFalse (is_passed param from s))
    xs i

-- that is the place of the first that a step of the parameter and tick stands before
pub place_is : (xs : List (Step ℕ)) (s : Step ℕ) (i : ℕ) → i ≤ length xs
    → PartsAt xs s.param s.from i → position_or_len (comes_before s) xs ≡ i
place_is xs s i few point =
    position_or_len_is (comes_before s) xs i s few
    (λ k below. passed_is_not_behind s (get_or xs k s) (point.0 k s (omega arith) below))
    (λ inside. other_is_behind s (get_or xs i s) (point.1 i s (omega arith) inside))

-- none has passed
pub none_is_at : (xs : List (Step ℕ)) (param from i : ℕ) → PartsAt xs param from i → i ≡ 0
    → list_any (is_at param from) xs ≡ false
none_is_at xs param from i point none =
    list_any_none (is_at param from) xs
    (λ k d inside. late_is_not_at param from (get_or xs k d)
    (point.1 k d (omega arith) inside))

-- the last that has passed is at the tick, or none is
pub last_is_at : (xs : List (Step ℕ)) (param from i : ℕ) (last : Step ℕ) → ascend xs ≡ true
    → i ≤ length xs → PartsAt xs param from i → 0 < i → get_or xs (i - 1) last ≡ last
    → is_at param from last ≡ list_any (is_at param from) xs
last_is_at xs param from i last up few point some is =
    by (is_at param from last) refl where
      passed : is_passed param from (get_or xs (i - 1) last) ≡ true
      passed = point.0 (i - 1) last (omega arith) (omega arith)

      by : (b : Bool) → is_at param from last ≡ b → b ≡ list_any (is_at param from) xs
      by true at =
          sym (list_any_at (is_at param from) xs (i - 1) last (omega arith)
          (ap (is_at param from) is ∙ at))
      by false off =
          sym (list_any_none (is_at param from) xs (λ k d inside.
          ap (is_at param from) (get_or_default xs k d last inside)
          ∙ ⊎_elim
          (λ early. ⊎_elim
          (λ earlier. earlier_is_not_at param from (get_or xs k last) (get_or xs (i - 1) last)
          (ascend_at xs k (i - 1) last up earlier (omega arith)) passed)
          (λ here. let same : k ≡ i - 1 = omega arith in
          ap (λ (j : ℕ). is_at param from (get_or xs j last)) same
          ∙ ap (is_at param from) is ∙ off)
          (cases_lt k (i - 1)))
          (λ late. late_is_not_at param from (get_or xs k last) (point.1 k last late inside))
          (cases_lt k i)))
