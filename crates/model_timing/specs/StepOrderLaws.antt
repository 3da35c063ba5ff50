-- Steps stay in order where one is added.
use Rattle.std.proofs.Common.{◌≡◌, ◌&&◌, ◌==◌, ◌+◌, ℕ, suc, Bool, true, false, cond, List, [], ◌∷◌}
use Rattle.std.proofs.Common.{refl, ap, ◌∙◌, arith}
use Rattle.std.proofs.lemmas.Bool.{and_from, and_parts, or_parts}
use Rattle.std.proofs.lemmas.Bool.Decides.{nat_tests}
use Rattle.std.proofs.lemmas.List.Elements.{All-cons, All-head, All-tail}
use Rattle.std.specs.Prelude.{not}
use Rattle.std.specs.List.{list_any, position_or_len, insert, All}
use Rattle.model_timing.specs.declared.step.Step.{Step}
use Rattle.model_timing.specs.Timing.{comes_before, ascend, with_step}

one_more : (n : ℕ) → 1 + n ≡ suc n
one_more n = omega arith

-- a step is added in front of the first that it stands before
pub insert-with_step : (s : Step ℕ) (xs : List (Step ℕ))
    → insert xs (position_or_len (comes_before s) xs) s ≡ with_step s xs
insert-with_step s [] = refl
insert-with_step s (x ∷ xs) =
    elim (comes_before s x) as (λ b.
    insert (x ∷ xs) (cond (not b) (1 + position_or_len (comes_before s) xs) 0) s
    ≡ cond b (s ∷ x ∷ xs) (x ∷ with_step s xs)) [
      | true ↦ refl
      | false ↦ ap (λ n. insert (x ∷ xs) n s) (one_more (position_or_len (comes_before s) xs))
          ∙ ap (λ t. x ∷ t) (insert-with_step s xs)
    ]

abbrev pub same_place : Step ℕ → Step ℕ → Bool
same_place s x = (x.param == s.param) && (x.from == s.from)

-- of two steps at different places one stands before the other
pub one_is_before : (s x : Step ℕ) → comes_before s x ≡ false → same_place s x ≡ false
    → comes_before x s ≡ true
one_is_before s x late apart = grind (arith, nat_tests)

-- a step in front of the rest, where it stands before the added one and before the first
ascend-front : (x s y : Step ℕ) (rest : List (Step ℕ)) → comes_before x s ≡ true
    → comes_before x y ≡ true → ascend (with_step s (y ∷ rest)) ≡ true
    → ascend (x ∷ with_step s (y ∷ rest)) ≡ true
ascend-front x s y rest before_s before_y up =
    elim (comes_before s y) as (λ b. ascend (cond b (s ∷ y ∷ rest) (y ∷ with_step s rest)) ≡ true
    → ascend (x ∷ cond b (s ∷ y ∷ rest) (y ∷ with_step s rest)) ≡ true) [
      | true ↦ λ u. and_from (comes_before x s) _ before_s u
      | false ↦ λ u. and_from (comes_before x y) _ before_y u
    ] up

pub ascend-with_step : (s : Step ℕ) (xs : List (Step ℕ)) → ascend xs ≡ true
    → list_any (same_place s) xs ≡ false → ascend (with_step s xs) ≡ true
ascend-with_step s [] up apart = refl
ascend-with_step s (x ∷ []) up apart =
    elim (comes_before s x) as (λ b. comes_before s x ≡ b
    → ascend (cond b (s ∷ x ∷ []) (x ∷ s ∷ [])) ≡ true) [
      | true ↦ λ e. and_from (comes_before s x) true e refl
      | false ↦ λ e. and_from (comes_before x s) true
          (one_is_before s x e (or_parts (same_place s x) false apart).0) refl
    ] refl
ascend-with_step s (x ∷ y ∷ rest) up apart =
    elim (comes_before s x) as (λ b. comes_before s x ≡ b
    → ascend (cond b (s ∷ x ∷ y ∷ rest) (x ∷ with_step s (y ∷ rest))) ≡ true) [
      | true ↦ λ e. and_from (comes_before s x) (ascend (x ∷ y ∷ rest)) e up
      | false ↦ λ e. ascend-front x s y rest
          (one_is_before s x e
          (or_parts (same_place s x) (list_any (same_place s) (y ∷ rest)) apart).0)
          (and_parts (comes_before x y) (ascend (y ∷ rest)) up).0
          (ascend-with_step s (y ∷ rest) (and_parts (comes_before x y) (ascend (y ∷ rest)) up).1
          (or_parts (same_place s x) (list_any (same_place s) (y ∷ rest)) apart).1)
    ] refl

-- what holds of each step and of the added one holds of all
pub All-with_step : (P : Step ℕ → Type 0) (s : Step ℕ) (xs : List (Step ℕ)) → P s → All P xs
    → All P (with_step s xs)
All-with_step P s [] here all = All-cons P s [] here all
All-with_step P s (x ∷ xs) here all =
    elim (comes_before s x) as (λ b. All P (cond b (s ∷ x ∷ xs) (x ∷ with_step s xs))) [
      | true ↦ All-cons P s (x ∷ xs) here all
      | false ↦ All-cons P x (with_step s xs) (All-head P x xs all)
          (All-with_step P s xs here (All-tail P x xs all))
    ]
