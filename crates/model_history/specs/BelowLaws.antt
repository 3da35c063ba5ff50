-- Tests of every number below a bound, as loops make them one number at a time.
use Rattle.std.proofs.Common.{◌≡◌, ◌&&◌, ◌||◌, ℕ, zero, suc, ◌+◌, ◌-◌, ◌<◌, ◌≤◌, Bool, true, false}
use Rattle.std.proofs.Common.{◌⊎◌, inl, inr, refl, sym, ap, subst, ◌∙◌, ⊎_elim, arith, le-leb}
use Rattle.std.proofs.lemmas.Bool.{cases_lt, cases_Bool, cases_eq}
use Rattle.std.specs.Prelude.{nat_le}
use Rattle.model_history.specs.Elements.{some_below, every_below, hold, timed, sealed}

or-true : (b : Bool) → b || true ≡ true
or-true true = refl
or-true false = refl

and-false : (b : Bool) → b && false ≡ false
and-false true = refl
and-false false = refl

-- one that passes, below a bound
pub some_below-some : (f : ℕ → Bool) (n k : ℕ) → k < n → f k ≡ true → some_below f n ≡ true
some_below-some f zero k h here = absurd (omega arith)
some_below-some f (suc n) k h here =
    ⊎_elim
    (λ lt. ap (λ b. f n || b) (some_below-some f n k lt here) ∙ or-true (f n))
    (λ le. let e : k ≡ n = omega arith in
    ap (λ m. f m || some_below f n) (sym e) ∙ ap (λ b. b || some_below f n) here)
    (cases_lt k n)

-- and where one passes there is one
pub some_below-where : (f : ℕ → Bool) (n : ℕ) → some_below f n ≡ true
    → (k : ℕ) × (k < n) × (f k ≡ true)
some_below-where f zero some = absurd (cc)
some_below-where f (suc n) some =
    ⊎_elim
    (λ here. (n, omega arith, here))
    (λ other.
    let (k, below, passes) =
    some_below-where f n (sym (ap (λ b. b || some_below f n) other) ∙ some) in
    (k, omega (arith, below), passes))
    (cases_Bool (f n))

-- one that fails, below a bound
pub every_below-fails : (f : ℕ → Bool) (n k : ℕ) → k < n → f k ≡ false → every_below f n ≡ false
every_below-fails f zero k h here = absurd (omega arith)
every_below-fails f (suc n) k h here =
    ⊎_elim
    (λ lt. ap (λ b. f n && b) (every_below-fails f n k lt here) ∙ and-false (f n))
    (λ le. let e : k ≡ n = omega arith in
    ap (λ m. f m && every_below f n) (sym e) ∙ ap (λ b. b && every_below f n) here)
    (cases_lt k n)

-- each passes
pub every_below-all : (f : ℕ → Bool) (n : ℕ) → ((k : ℕ) → k < n → f k ≡ true)
    → every_below f n ≡ true
every_below-all f zero all = refl
every_below-all f (suc n) all =
    ap (λ b. b && every_below f n) (all n (omega arith))
    ∙ every_below-all f n (λ k lt. all k (omega arith))

-- no tick up to s is after s
pub every_after-start : (u : ℕ → Bool) (s : ℕ) → every_below (λ r. nat_le r s || u r) (s + 1) ≡ true
every_after-start u s = every_below-all (λ r. nat_le r s || u r) (s + 1)
    (λ k lt. ap (λ b. b || u k) (le-leb k s (omega arith)))

-- a tick after s at which u is off
pub every_after-fails : (u : ℕ → Bool) (s t k : ℕ) → k < t + 1 → nat_le k s ≡ false → u k ≡ false
    → every_below (λ r. nat_le r s || u r) (t + 1) ≡ false
every_after-fails u s t k lt after off =
    every_below-fails (λ r. nat_le r s || u r) (t + 1) k lt (ap (λ b. b || u k) after ∙ off)

-- a timed element is on
pub timed_yes : (u : ℕ → Bool) (p d t s : ℕ) → s < t + 1 → t ≤ s + d → p ≤ s
    → every_below (λ i. u (s - i)) (p + 1) ≡ true → timed u p d t ≡ true
unfolding timed hold
timed_yes u p d t s lt near far h =
    let below : s < suc t = omega arith in
    let e : p + 1 ≡ suc p = omega arith in
    let all : every_below (λ i. u (s - i)) (suc p) ≡ true =
    ap (λ n. every_below (λ i. u (s - i)) n) (sym e) ∙ h in
    some_below-some (λ s. nat_le t (s + d) && (nat_le p s && every_below (λ k. u (s - k)) (suc p)))
    (suc t) s below
    (ap (λ b. b && (nat_le p s && every_below (λ k. u (s - k)) (suc p))) (le-leb t (s + d) near)
    ∙ ap (λ b. b && every_below (λ k. u (s - k)) (suc p)) (le-leb p s far) ∙ all)

-- a seal is on
pub sealed_yes : (a b : ℕ → Bool) (t s : ℕ) → s < t + 1 → a s ≡ true
    → every_below (λ r. nat_le r s || b r) (t + 1) ≡ true → sealed a b t ≡ true
unfolding sealed
sealed_yes a b t s lt set h =
    let below : s < suc t = omega arith in
    let e : t + 1 ≡ suc t = omega arith in
    some_below-some (λ s. a s && every_below (λ r. nat_le r s || b r) (suc t)) (suc t) s below
    (ap (λ x. x && every_below (λ r. nat_le r s || b r) (suc t)) set
    ∙ ap (λ n. every_below (λ r. nat_le r s || b r) n) (sym e) ∙ h)

-- a seal is off
pub sealed_no : (a b : ℕ → Bool) (t n : ℕ) → n ≡ suc t
    → some_below (λ s. a s && every_below (λ r. nat_le r s || b r) (t + 1)) n ≡ false
    → false ≡ sealed a b t
unfolding sealed
sealed_no a b t n e h =
    let f : t + 1 ≡ suc t = omega arith in
    sym h
    ∙ ap (λ m. some_below (λ s. a s && every_below (λ r. nat_le r s || b r) (t + 1)) m) e
    ∙ ap (λ m. some_below (λ s. a s && every_below (λ r. nat_le r s || b r) m) (suc t)) f

-- a timed element is off
pub timed_no : (u : ℕ → Bool) (p d t n : ℕ) → n ≡ suc t
    → some_below (λ s. nat_le t (s + d) && hold u p s) n ≡ false → false ≡ timed u p d t
unfolding timed
timed_no u p d t n e h = sym h ∙ ap (λ m. some_below (λ s. nat_le t (s + d) && hold u p s) m) e

-- values that are the same below a bound have one that passes there in common
pub some_below-same : (u v : ℕ → Bool) (n : ℕ) → ((t : ℕ) → t < n → u t ≡ v t)
    → some_below u n ≡ some_below v n
some_below-same u v zero same = refl
some_below-same u v (suc n) same =
    ap (λ (b : Bool). b || some_below u n) (same n (omega arith))
    ∙ ap (λ (b : Bool). v n || b) (some_below-same u v n (λ t lt. same t (omega arith)))

-- each number below a bound passes, or there is a first that does not
pub first_of : (P F : ℕ → Type 0) (n : ℕ) → ((i : ℕ) → i < n → P i ⊎ F i)
    → ((i : ℕ) → i < n → P i)
    ⊎ ((i : ℕ) × (i < n) × F i × ((j : ℕ) → j < i → P j))
first_of P F zero told = inl (λ i lt. absurd (omega (arith, lt)))
first_of P F (suc n) told = elim (first_of P F n (λ i lt. told i (omega (arith, lt)))) [
  | inr first ↦ inr (first.0, omega (arith, first.1), first.2, first.3)
  | inl all ↦ elim (told n (omega arith)) [
    | inr fails ↦ inr (n, omega arith, fails, all)
    | inl passes ↦ inl (λ i lt. elim (cases_eq i n) [
      | inl same ↦ subst P (sym same) passes
      | inr other ↦ all i (omega (arith, lt, other))
    ])
  ]
]

-- two numbers of which neither is the smaller
pub neither_below : (a b : ℕ) → (a < b → ⊥) → (b < a → ⊥) → a ≡ b
neither_below a b above below =
    ⊎_elim (λ lt. absurd (above lt))
    (λ le. ⊎_elim (λ lt. absurd (below lt)) (λ ge. omega arith) (cases_lt b a))
    (cases_lt a b)
