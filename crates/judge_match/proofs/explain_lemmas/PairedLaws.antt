-- Changes side by side, one after another.
use Rattle.std.proofs.Common.{◌≡◌, ◌≤◌, ◌<◌, ◌+◌, ◌∷◌, ◌++◌, [], ℕ, zero, suc, Bool, not, List, ◌⊎◌, inl, inr}
use Rattle.std.proofs.Common.{length, refl, sym, ◌∙◌, ap, arith, ⊎_elim, get_or, drop}
use Rattle.std.proofs.lemmas.List.{append-nil}
use Rattle.judge_match.specs.explain.Answers.{paired}
use Rattle.judge_match.specs.declared.explain.paired.Paired.{Paired}

none_left : (k : ℕ) (trip level : Bool) (i : ℕ) (xs ys : List ℕ)
    → (length xs ≤ i) ⊎ (length ys ≤ i) → paired k trip level (drop i xs) (drop i ys) ≡ []
none_left k trip level i [] ys past = nothing (drop i ys) i
  where
    nothing : (zs : List ℕ) (j : ℕ) → paired k trip level (drop j []) zs ≡ []
    nothing zs zero = refl
    nothing zs (suc j) = refl
none_left k trip level zero (x ∷ xs) [] past = refl
none_left k trip level (suc i) (x ∷ xs) [] past = by (drop i xs)
  where
    by : (zs : List ℕ) → paired k trip level zs [] ≡ []
    by [] = refl
    by (z ∷ zs) = refl
none_left k trip level zero (x ∷ xs) (y ∷ ys) past =
    absurd (⊎_elim (λ (e : length (x ∷ xs) ≤ 0). omega (arith, e))
    (λ (e : length (y ∷ ys) ≤ 0). omega (arith, e)) past)
none_left k trip level (suc i) (x ∷ xs) (y ∷ ys) past =
    none_left k trip level i xs ys
    (⊎_elim (λ (e : length (x ∷ xs) ≤ suc i). let f : length xs ≤ i = omega arith in inl f)
    (λ (e : length (y ∷ ys) ≤ suc i). let f : length ys ≤ i = omega arith in inr f) past)

pub paired_end : (k : ℕ) (trip level : Bool) (i : ℕ) (xs ys : List ℕ) (rows all : List Paired)
    → (length xs ≤ i) ⊎ (length ys ≤ i)
    → rows ++ paired k trip level (drop i xs) (drop i ys) ≡ all → rows ≡ all
paired_end k trip level i xs ys rows all past so_far =
    sym (append-nil rows)
    ∙ ap (λ l. rows ++ l) (sym (none_left k trip level i xs ys past)) ∙ so_far

one_left : (k : ℕ) (trip level : Bool) (i : ℕ) (xs ys : List ℕ) → i < length xs → i < length ys
    → paired k trip level (drop i xs) (drop i ys)
    ≡ (record { terminal = k; trip = trip; level = level; recorded = get_or xs i 0; played = get_or ys i 0 })
    ∷ paired k trip (not level) (drop (i + 1) xs) (drop (i + 1) ys)
one_left k trip level i [] ys a b = absurd (omega (arith, a))
one_left k trip level i (x ∷ xs) [] a b = absurd (omega (arith, b))
one_left k trip level zero (x ∷ xs) (y ∷ ys) a b = refl
one_left k trip level (suc i) (x ∷ xs) (y ∷ ys) a b =
    let e : suc (i + 1) ≡ suc i + 1 = omega arith in
    one_left k trip level i xs ys (omega arith) (omega arith)
    ∙ ap (λ (n : ℕ). (record { terminal = k; trip = trip; level = level; recorded = get_or xs i 0; played = get_or ys i 0 })
    ∷ paired k trip (not level) (drop n (x ∷ xs)) (drop n (y ∷ ys))) e

grouped : (rows more : List Paired) (x : Paired) → (rows ++ x ∷ []) ++ more ≡ rows ++ (x ∷ more)
grouped [] more x = refl
grouped (r ∷ rows) more x = ap (λ l. r ∷ l) (grouped rows more x)

pub paired_step : (k : ℕ) (trip level : Bool) (i : ℕ) (xs ys : List ℕ) (rows new all : List Paired)
    → i < length xs → i < length ys
    → new ≡ rows ++ (record { terminal = k; trip = trip; level = level; recorded = get_or xs i 0; played = get_or ys i 0 }) ∷ []
    → rows ++ paired k trip level (drop i xs) (drop i ys) ≡ all
    → new ++ paired k trip (not level) (drop (i + 1) xs) (drop (i + 1) ys) ≡ all
paired_step k trip level i xs ys rows new all a b is so_far =
    ap (λ l. l ++ paired k trip (not level) (drop (i + 1) xs) (drop (i + 1) ys)) is
    ∙ grouped rows (paired k trip (not level) (drop (i + 1) xs) (drop (i + 1) ys))
    (record { terminal = k; trip = trip; level = level; recorded = get_or xs i 0; played = get_or ys i 0 })
    ∙ ap (λ l. rows ++ l) (sym (one_left k trip level i xs ys a b)) ∙ so_far
