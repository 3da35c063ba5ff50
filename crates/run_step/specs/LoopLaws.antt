-- Loops that go one element further.
use Rattle.std.proofs.Common.{◌≡◌, ◌≢◌, ℕ, ◌+◌, ◌<◌, ◌≤◌, List, Some, length, sym, subst, arith, ⊎_elim}
use Rattle.std.proofs.Math.Nat.{max-le}
use Rattle.std.proofs.lemmas.Option.{slice_get-get_or, slice_get_within}
use Rattle.std.proofs.lemmas.Bool.{cases_lt}
use Rattle.std.specs.Prelude.{slice_get, slice_set, get_or, max}
use Rattle.model_history.specs.ListLaws.{at_set, one_value}
use Rattle.run_step.specs.Ticks.{PartDone}

-- the first n elements have it
abbrev pub FirstHave : {X : Type 0} → (X → Type 0) → List X → ℕ → Type 0
FirstHave P xs n = (j : ℕ) (y : _) → j < n → slice_get xs j ≡ Some y → P y

pub first_more : {X : Type 0} (P : X → Type 0) (xs : List X) (i : ℕ) (x : X)
    → slice_get xs i ≡ Some x → FirstHave P xs i → P x → FirstHave P xs (i + 1)
first_more P xs i x at before now j y lt here =
    ⊎_elim (λ low. before j y low here)
    (λ high. let e : i ≡ j = omega arith in
    subst P (one_value xs i j x y e at here) now) (cases_lt j i)

pub first_read : {X : Type 0} (P : X → Type 0) (xs : List X) (i : ℕ) (d : X) → i < length xs
    → FirstHave P xs i → P (get_or xs i d) → FirstHave P xs (i + 1)
first_read P xs i d lt before now =
    first_more P xs i (get_or xs i d) (slice_get-get_or xs i d lt) before now

pub first_all : {X : Type 0} (P : X → Type 0) (xs : List X) (n : ℕ) → length xs ≤ n
    → FirstHave P xs n → (j : ℕ) (y : X) → slice_get xs j ≡ Some y → P y
first_all P xs n le have j y at =
    let lt : j < length xs = slice_get_within xs j y at in have j y (omega arith) at

pub at_most_max : (r a : ℕ) → r ≡ max a 1 → 1 ≤ a → r ≤ a
at_most_max r a e some =
    let self : a ≤ a = omega arith in subst (λ (k : ℕ). k ≤ a) (sym e) (max-le self some)

-- one element more of a list that is written from front to end
pub part_more : {X : Type 0} (isdone isleft : ℕ → X → Type 0) (i : ℕ) (old new : X) (xs : List X)
    → slice_get xs i ≡ Some old → (isleft i old → isdone i new) → PartDone isdone isleft i xs
    → PartDone isdone isleft (i + 1) (slice_set xs i new)
part_more isdone isleft i old new xs at now part = record {
  done = λ j x lt h.
      ⊎_elim
      (λ p. subst (λ (k : ℕ). isdone k x) (sym p.0)
      (subst (isdone i) p.1 (now (part.left i old (omega arith) at))))
      (λ p. let ne : j ≢ i = p.0 in part.done j x (omega arith) p.1)
      (at_set xs i new j x h);
  left = λ j x le h.
      ⊎_elim (λ p. let e : j ≡ i = p.0 in absurd (omega arith))
      (λ p. part.left j x (omega arith) p.1)
      (at_set xs i new j x h);
}
