-- The steps of a table stand in order, and a step that is entered stands at its place.
use Rattle.std.proofs.Common.{◌≡◌, ◌+◌, ◌*◌, ◌<◌, ◌≤◌, ◌&&◌, ◌||◌, ◌==◌, ℕ, zero, suc, Bool, true, false}
use Rattle.std.proofs.Common.{List, [], ◌∷◌, ◌++◌, Option, None, Some, cond, length, get_or, set}
use Rattle.std.proofs.Common.{drop, take, replicate, refl, sym, ◌∙◌, ap, arith}
use Rattle.std.proofs.lemmas.List.{append-nil}
use Rattle.std.proofs.lemmas.Bool.{and_from}
use Rattle.std.proofs.lemmas.Bool.Decides.{nat_tests}
use Rattle.std.specs.Prelude.{◌/◌, ◌%◌, nat_lt}
use Rattle.std.specs.{List.list_any, Option.is_some}
use Rattle.model_timing.specs.declared.step.Step.{Step}
use Rattle.model_timing.specs.Timing.{ascend, comes_before, with_step}
use Rattle.file_tables.specs.timing.Table.{listed, place_of, step_of}

-- ---- places

parts : (n : ℕ) → n / 4096 * 4096 + n % 4096 ≡ n
parts n = omega arith

below : (n : ℕ) → n % 4096 < 4096
below n = omega arith

before_by : (a b c d q p : ℕ) → a * 4096 + b ≡ q → c * 4096 + d ≡ p → b < 4096 → d < 4096 → q < p
    → (nat_lt a c || ((a == c) && nat_lt b d)) ≡ true
before_by a b c d q p is also low small lt = grind (arith, nat_tests)

not_before_by : (a b c d q p : ℕ) → a * 4096 + b ≡ q → c * 4096 + d ≡ p → b < 4096 → d < 4096
    → p ≤ q → (nat_lt a c || ((a == c) && nat_lt b d)) ≡ false
not_before_by a b c d q p is also low small le = grind (arith, nat_tests)

same_by : (a b c d p : ℕ) → a * 4096 + b ≡ p → c * 4096 + d ≡ p → b < 4096 → d < 4096
    → ((a == c) && (b == d)) ≡ true
same_by a b c d p is also low small = grind (arith, nat_tests)

above_by : (a b c d q p : ℕ) → a * 4096 + b ≡ q → c * 4096 + d ≡ p → b < 4096 → d < 4096 → q < p
    → ((a == c) && (b == d)) ≡ false
above_by a b c d q p is also low small lt = grind (arith, nat_tests)

below_by : (a b c d q p : ℕ) → a * 4096 + b ≡ q → c * 4096 + d ≡ p → b < 4096 → d < 4096 → p < q
    → ((a == c) && (b == d)) ≡ false
below_by a b c d q p is also low small lt = grind (arith, nat_tests)

step_before : (q v p x : ℕ) → q < p → comes_before (step_of q v) (step_of p x) ≡ true
step_before q v p x lt =
    before_by (q / 4096) (q % 4096) (p / 4096) (p % 4096) q p (parts q) (parts p) (below q) (below p)
    lt

step_not_before : (q v p x : ℕ) → p ≤ q → comes_before (step_of q v) (step_of p x) ≡ false
step_not_before q v p x le =
    not_before_by (q / 4096) (q % 4096) (p / 4096) (p % 4096) q p (parts q) (parts p) (below q)
    (below p) le

-- a step's own place is that of its parameter and tick
pub step_is : (param from value : ℕ) → from < 4096
    → (let s : Step ℕ = record { param = param; from = from; value = value } in
    step_of (place_of param from) value ≡ s)
step_is param from value low =
    let p : (param * 4096 + from) / 4096 ≡ param = omega arith in
    let f : (param * 4096 + from) % 4096 ≡ from = omega arith in
    cc

-- ---- in order

ascend_after : (q v p : ℕ) (t : List (Option ℕ)) → q < p
    → ascend (step_of q v ∷ listed p t) ≡ true
ascend_after q v p [] lt = refl
ascend_after q v p (None ∷ t) lt = ascend_after q v (suc p) t (omega arith)
ascend_after q v p (Some x ∷ t) lt =
    and_from (comes_before (step_of q v) (step_of p x)) _ (step_before q v p x lt)
    (ascend_after p x (suc p) t (omega arith))

pub listed_ascend : (p : ℕ) (t : List (Option ℕ)) → ascend (listed p t) ≡ true
listed_ascend p [] = refl
listed_ascend p (None ∷ t) = listed_ascend (suc p) t
listed_ascend p (Some x ∷ t) = ascend_after p x (suc p) t (omega arith)

-- ---- whether there is a step

module _ (param from : ℕ) (low : from < 4096) where
  abbrev is_at : Step ℕ → Bool
  is_at s = (s.param == param) && (s.from == from)

  none_above : (p : ℕ) (t : List (Option ℕ)) → place_of param from < p
      → list_any is_at (listed p t) ≡ false
  none_above p [] lt = refl
  none_above p (None ∷ t) lt = none_above (suc p) t (omega arith)
  none_above p (Some x ∷ t) lt =
      ap (λ (b : Bool). b || list_any is_at (listed (suc p) t))
      (below_by (p / 4096) (p % 4096) param from p (place_of param from) (parts p) refl (below p) low
      lt)
      ∙ none_above (suc p) t (omega arith)

  pub has_at : (p i : ℕ) (t : List (Option ℕ)) → place_of param from ≡ p + i
      → list_any is_at (listed p t) ≡ is_some (get_or t i None)
  has_at p i [] is = refl
  has_at p zero (None ∷ t) is = none_above (suc p) t (omega arith)
  has_at p zero (Some x ∷ t) is =
      ap (λ (b : Bool). b || list_any is_at (listed (suc p) t))
      (same_by (p / 4096) (p % 4096) param from p (parts p) (omega arith) (below p) low)
  has_at p (suc i) (None ∷ t) is = has_at (suc p) i t (omega arith)
  has_at p (suc i) (Some x ∷ t) is =
      ap (λ (b : Bool). b || list_any is_at (listed (suc p) t))
      (above_by (p / 4096) (p % 4096) param from p (place_of param from) (parts p) refl (below p) low
      (omega arith))
      ∙ has_at (suc p) i t (omega arith)

-- ---- one step more

in_front : (q v p : ℕ) (t : List (Option ℕ)) → q < p
    → with_step (step_of q v) (listed p t) ≡ step_of q v ∷ listed p t
in_front q v p [] lt = refl
in_front q v p (None ∷ t) lt = in_front q v (suc p) t (omega arith)
in_front q v p (Some x ∷ t) lt =
    ap (λ (b : Bool). cond b (step_of q v ∷ step_of p x ∷ listed (suc p) t)
    (step_of p x ∷ with_step (step_of q v) (listed (suc p) t))) (step_before q v p x lt)

pub entered : (p i q v : ℕ) (t : List (Option ℕ)) → q ≡ p + i → i < length t
    → get_or t i None ≡ None
    → listed p (set t i (Some v)) ≡ with_step (step_of q v) (listed p t)
entered p i q v [] is lt free = absurd (omega arith)
entered p zero q v (None ∷ t) is lt free =
    let e : p ≡ q = omega arith in
    ap (λ (n : ℕ). step_of n v ∷ listed (suc p) t) e ∙ sym (in_front q v (suc p) t (omega arith))
entered p zero q v (Some x ∷ t) is lt free = absurd (let e : Some x ≡ None = free in cc)
entered p (suc i) q v (None ∷ t) is lt free =
    entered (suc p) i q v t (omega arith) (omega arith) free
entered p (suc i) q v (Some x ∷ t) is lt free =
    ap (λ (l : List (Step ℕ)). step_of p x ∷ l)
    (entered (suc p) i q v t (omega arith) (omega arith) free)
    ∙ sym (ap (λ (b : Bool). cond b (step_of q v ∷ step_of p x ∷ listed (suc p) t)
    (step_of p x ∷ with_step (step_of q v) (listed (suc p) t)))
    (step_not_before q v p x (omega arith)))

-- ---- a table with more places

none_listed : (n p : ℕ) → listed p (replicate n None) ≡ []
none_listed zero p = refl
none_listed (suc n) p = none_listed n (suc p)

pub same_listed : (n p : ℕ) (t : List (Option ℕ)) → listed p (t ++ replicate n None) ≡ listed p t
same_listed n p [] = none_listed n p
same_listed n p (None ∷ t) = same_listed n (suc p) t
same_listed n p (Some x ∷ t) =
    ap (λ (l : List (Step ℕ)). step_of p x ∷ l) (same_listed n (suc p) t)

none_there : (n i : ℕ) → (let o : Option ℕ = None in get_or (replicate n o) i None ≡ o)
none_there zero i = refl
none_there (suc n) zero = refl
none_there (suc n) (suc i) = none_there n i

pub same_places : (n i : ℕ) (t : List (Option ℕ))
    → get_or (t ++ replicate n None) i None ≡ get_or t i None
same_places n i [] = none_there n i
same_places n zero (x ∷ t) = refl
same_places n (suc i) (x ∷ t) = same_places n i t

pub none_of : (o : Option ℕ) → is_some o ≡ false → o ≡ None
none_of None is = refl
none_of (Some x) is = absurd (let e : true ≡ false = is in cc)

pub take_all : (t : List (Option ℕ)) (n : ℕ) → length t ≤ n → take n t ≡ t
take_all [] zero le = refl
take_all [] (suc n) le = refl
take_all (x ∷ t) zero le = absurd (omega arith)
take_all (x ∷ t) (suc n) le = ap (λ (l : List (Option ℕ)). x ∷ l) (take_all t n (omega arith))

drop_all : (t : List (Option ℕ)) (n : ℕ) → length t ≤ n → drop n t ≡ []
drop_all [] zero le = refl
drop_all [] (suc n) le = refl
drop_all (x ∷ t) zero le = absurd (omega arith)
drop_all (x ∷ t) (suc n) le = drop_all t n (omega arith)

-- at the end of a table nothing is left
pub none_left : (steps : List (Step ℕ)) (n : ℕ) (t : List (Option ℕ)) → length t ≤ n
    → steps ≡ steps ++ listed n (drop n t)
none_left steps n t le =
    sym (append-nil steps) ∙ ap (λ (l : List (Option ℕ)). steps ++ listed n l) (sym (drop_all t n le))
