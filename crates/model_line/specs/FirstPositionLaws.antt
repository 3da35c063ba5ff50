-- The first place in a list at which a test passes.
use Rattle.std.proofs.Common.{◌≡◌, ◌||◌, ℕ, zero, suc, ◌+◌, ◌<◌, Bool, true, false, List, [], ◌∷◌}
use Rattle.std.proofs.Common.{◌++◌, length, take, get_or, cond, Some, None, refl, ap, ◌∙◌, arith}
use Rattle.std.specs.Prelude.{is_some, option_map}
use Rattle.std.specs.List.{position_from, list_any}

module _ {K : Type 0} (p : K → Bool) where
  -- where the test passes somewhere there is a place
  pub is_some-position : (n : ℕ) (xs : List K) → is_some (position_from p n xs) ≡ list_any p xs
  is_some-position n [] = refl
  is_some-position n (x ∷ xs) =
      elim (p x)
      as (λ b. is_some (cond b (Some n) (position_from p (n + 1) xs)) ≡ b || list_any p xs)
      [ true ↦ refl | false ↦ is_some-position (n + 1) xs ]

  -- a place is within the list
  pub position_within :
      (n i : ℕ) (xs : List K) → position_from p n xs ≡ Some i → i < n + length xs
  position_within n i [] e = absurd (cc)
  position_within n i (x ∷ xs) e =
      elim (p x)
      as (λ b. cond b (Some n) (position_from p (n + 1) xs) ≡ Some i → i < n + length (x ∷ xs)) [
        | true ↦ λ f. let same : n ≡ i = cc in omega arith
        | false ↦ λ f.
            let below : i < n + 1 + length xs = position_within (n + 1) i xs f in omega arith
      ] e

  -- none in either half, none at all
  pub list_any-append_false :
      (xs ys : List K) → list_any p xs ≡ false → list_any p ys ≡ false →
      list_any p (xs ++ ys) ≡ false
  list_any-append_false [] ys h k = k
  list_any-append_false (x ∷ xs) ys h k =
      elim (p x) as (λ b. b || list_any p xs ≡ false → b || list_any p (xs ++ ys) ≡ false)
      [ true ↦ λ f. absurd (cc) | false ↦ λ f. list_any-append_false xs ys f k ] h

  -- one in the second half
  pub list_any-append_right :
      (xs ys : List K) → list_any p ys ≡ true → list_any p (xs ++ ys) ≡ true
  list_any-append_right [] ys h = h
  list_any-append_right (x ∷ xs) ys h =
      elim (p x) as (λ b. b || list_any p (xs ++ ys) ≡ true)
      [ true ↦ refl | false ↦ list_any-append_right xs ys h ]

  -- one in the first half
  pub list_any-append_left :
      (xs ys : List K) → list_any p xs ≡ true → list_any p (xs ++ ys) ≡ true
  list_any-append_left [] ys h = absurd (cc)
  list_any-append_left (x ∷ xs) ys h =
      elim (p x) as (λ b. b || list_any p xs ≡ true → b || list_any p (xs ++ ys) ≡ true)
      [ true ↦ λ _. refl | false ↦ λ e. list_any-append_left xs ys e ] h

  -- none at all
  pub position_from-none :
      (n : ℕ) (xs : List K) → list_any p xs ≡ false → position_from p n xs ≡ None
  position_from-none n [] h = refl
  position_from-none n (x ∷ xs) h =
      elim (p x)
      as (λ b. b || list_any p xs ≡ false → cond b (Some n) (position_from p (n + 1) xs) ≡ None)
      [ true ↦ λ f. absurd (cc) | false ↦ λ f. position_from-none (n + 1) xs f ] h

  -- none in the first half
  pub position_from-append_none :
      (n : ℕ) (xs ys : List K) → list_any p xs ≡ false →
      position_from p n (xs ++ ys) ≡ position_from p (n + length xs) ys
  position_from-append_none n [] ys h =
      let e : n ≡ n + 0 = omega arith in ap (λ m. position_from p m ys) e
  position_from-append_none n (x ∷ xs) ys h =
      elim (p x)
      as (λ b. b || list_any p xs ≡ false →
      cond b (Some n) (position_from p (n + 1) (xs ++ ys))
      ≡ position_from p (n + length (x ∷ xs)) ys) [
        | true ↦ λ f. absurd (cc)
        | false ↦ λ f.
            let e : n + 1 + length xs ≡ n + length (x ∷ xs) = omega arith in
            position_from-append_none (n + 1) xs ys f ∙ ap (λ m. position_from p m ys) e
      ] h

  -- one in the first half
  pub position_from-append_some :
      (n i : ℕ) (xs ys : List K) → position_from p n xs ≡ Some i →
      position_from p n (xs ++ ys) ≡ Some i
  position_from-append_some n i [] ys e = absurd (cc)
  position_from-append_some n i (x ∷ xs) ys e =
      elim (p x)
      as (λ b. cond b (Some n) (position_from p (n + 1) xs) ≡ Some i →
      cond b (Some n) (position_from p (n + 1) (xs ++ ys)) ≡ Some i)
      [ true ↦ λ f. f | false ↦ λ f. position_from-append_some (n + 1) i xs ys f ] e

  -- none in the second half
  pub position_from-none_behind :
      (n : ℕ) (xs ys : List K) → list_any p ys ≡ false →
      position_from p n (xs ++ ys) ≡ position_from p n xs
  position_from-none_behind n [] ys h = position_from-none n ys h
  position_from-none_behind n (x ∷ xs) ys h =
      ap (λ o. cond (p x) (Some n) o) (position_from-none_behind (n + 1) xs ys h)

  -- counted from a later start
  pub position_from-later :
      (n m : ℕ) (xs : List K) →
      position_from p (n + m) xs ≡ option_map (λ i. n + i) (position_from p m xs)
  position_from-later n m [] = refl
  position_from-later n m (x ∷ xs) =
      let e : n + m + 1 ≡ n + (m + 1) = omega arith in
      elim (p x)
      as (λ b. cond b (Some (n + m)) (position_from p (n + m + 1) xs)
      ≡ option_map (λ i. n + i) (cond b (Some m) (position_from p (m + 1) xs))) [
        | true ↦ refl
        | false ↦ ap (λ k. position_from p k xs) e ∙ position_from-later n (m + 1) xs
      ]

  -- the first that passes
  pub position_from-first :
      (n c : ℕ) (xs : List K) (d : K) → c < length xs → list_any p (take c xs) ≡ false →
      p (get_or xs c d) ≡ true → position_from p n xs ≡ Some (n + c)
  position_from-first n c [] d lt none here = absurd (omega arith)
  position_from-first n zero (x ∷ xs) d lt none here =
      let e : n ≡ n + 0 = omega arith in
      ap (λ b. cond b (Some n) (position_from p (n + 1) xs)) here ∙ ap Some e
  position_from-first n (suc c) (x ∷ xs) d lt none here =
      let e : n + 1 + c ≡ n + suc c = omega arith in
      let less : c < length xs = omega arith in
      elim (p x)
      as (λ b. b || list_any p (take c xs) ≡ false →
      cond b (Some n) (position_from p (n + 1) xs) ≡ Some (n + suc c)) [
        | true ↦ λ f. absurd (cc)
        | false ↦ λ f. position_from-first (n + 1) c xs d less f here ∙ ap Some e
      ] none

  -- none before the first that passes
  pub none_before :
      (n c j : ℕ) (xs : List K) (d : K) → position_from p n xs ≡ Some (n + c) → j < c →
      p (get_or xs j d) ≡ false
  none_before n c j [] d e less = absurd (cc)
  none_before n zero j (x ∷ xs) d e less = absurd (omega arith)
  none_before n (suc c) zero (x ∷ xs) d e less =
      elim (p x)
      as (λ b. cond b (Some n) (position_from p (n + 1) xs) ≡ Some (n + suc c) → b ≡ false) [
        | true ↦ λ f. let same : n ≡ n + suc c = cc in absurd (omega arith)
        | false ↦ λ f. refl
      ] e
  none_before n (suc c) (suc j) (x ∷ xs) d e less =
      elim (p x)
      as (λ b. cond b (Some n) (position_from p (n + 1) xs) ≡ Some (n + suc c) →
      p (get_or xs j d) ≡ false) [
        | true ↦ λ f. let same : n ≡ n + suc c = cc in absurd (omega arith)
        | false ↦ λ f.
            let same : n + suc c ≡ n + 1 + c = omega arith in
            none_before (n + 1) c j xs d (f ∙ ap Some same) (omega arith)
      ] e

  -- none among those before a place, where none of these passes
  pub list_any-take_none :
      (c : ℕ) (xs : List K) (d : K) → ((j : ℕ) → j < c → p (get_or xs j d) ≡ false) →
      list_any p (take c xs) ≡ false
  list_any-take_none zero xs d each = refl
  list_any-take_none (suc c) [] d each = refl
  list_any-take_none (suc c) (x ∷ xs) d each =
      ap (λ b. b || list_any p (take c xs)) (each zero (omega arith))
      ∙ list_any-take_none c xs d (λ j less. each (suc j) (omega arith))
