-- Elements of lists: what holds of each, and those of lists that grow, that are joined, that are
-- parts of others, that are made element by element, or of which one is written.
use Rattle.std.proofs.Common.{◌≡◌, ◌≢◌, ◌⊎◌, ◌<◌, ◌+◌, ℕ, zero, suc, List, [], ◌∷◌, ◌++◌, length, Some}
use Rattle.std.proofs.Common.{map}
use Rattle.std.proofs.Math.ListN.{take, drop}
use Rattle.std.proofs.Common.{refl, sym, ◌∙◌, ap, subst, arith, inl, inr, ⊎_elim}
use Rattle.std.proofs.lemmas.List.Elements.{All-head, All-tail}
use Rattle.std.proofs.lemmas.Option.{same_Some, slice_get-get_or}
use Rattle.std.specs.Prelude.{slice_get, slice_set, get_or}
use Rattle.std.specs.List.{All}

-- what holds of all holds of the one at a place
pub all_at : {X : Type 0} (P : X → Type 0) (xs : List X) (i : ℕ) (x : X) → All P xs
    → slice_get xs i ≡ Some x → P x
all_at P [] i x all at = absurd (cc)
all_at P (y ∷ xs) zero x all at = subst P (same_Some y x at) (All-head P y xs all)
all_at P (y ∷ xs) (suc i) x all at = all_at P xs i x (All-tail P y xs all) at

-- an element of a list that is made of another, element by element, is made of one there
pub mapped : {A B : Type 0} (f : A → B) (xs : List A) (k : ℕ) (y : B)
    → slice_get (map f xs) k ≡ Some y → (x : A) × (slice_get xs k ≡ Some x) × (f x ≡ y)
mapped f [] k y e = absurd (cc)
mapped f (x ∷ xs) zero y e = let same : f x ≡ y = cc in (x, refl, same)
mapped f (x ∷ xs) (suc k) y e = mapped f xs k y e

-- an element that is read by its index
pub at_index : {X : Type 0} (xs : List X) (k : ℕ) (x : X) → k < length xs → x ≡ get_or xs k x
    → slice_get xs k ≡ Some x
at_index xs k x inside is = slice_get-get_or xs k x inside ∙ ap Some (sym is)

module _ {X : Type 0} where
  pub one_value : (xs : List X) (i j : ℕ) (a b : X) → i ≡ j → slice_get xs i ≡ Some a
      → slice_get xs j ≡ Some b → a ≡ b
  one_value xs i j a b e f g = cc

  -- there is one at each place of the list
  pub exists_at : (xs : List X) (i : ℕ) → i < length xs → (x : X) × (slice_get xs i ≡ Some x)
  exists_at [] i lt = absurd (omega arith)
  exists_at (x ∷ xs) zero lt = (x, refl)
  exists_at (x ∷ xs) (suc i) lt = exists_at xs i (omega arith)

  -- an element of a list with one written
  pub at_set : (xs : List X) (i : ℕ) (y : X) (j : ℕ) (z : X)
      → slice_get (slice_set xs i y) j ≡ Some z
      → ((j ≡ i) × (y ≡ z)) ⊎ ((j ≢ i) × (slice_get xs j ≡ Some z))
  at_set [] i y j z e = absurd (cc)
  at_set (x ∷ xs) zero y zero z e = let same : y ≡ z = cc in inl (refl, same)
  at_set (x ∷ xs) zero y (suc j) z e = inr ((λ h. omega arith), e)
  at_set (x ∷ xs) (suc i) y zero z e = inr ((λ h. omega arith), e)
  at_set (x ∷ xs) (suc i) y (suc j) z e =
      ⊎_elim (λ p. inl (ap suc p.0, p.1)) (λ p. inr ((λ h. p.0 (omega arith)), p.1))
      (at_set xs i y j z e)

  -- an element of two lists, one after the other
  pub at_append : (xs ys : List X) (p : ℕ) (x : X) → slice_get (xs ++ ys) p ≡ Some x
      → (slice_get xs p ≡ Some x) ⊎ ((q : ℕ) × (p ≡ length xs + q) × (slice_get ys q ≡ Some x))
  at_append [] ys p x e = inr (p, omega arith, e)
  at_append (z ∷ xs) ys zero x e = inl e
  at_append (z ∷ xs) ys (suc p) x e =
      ⊎_elim inl
      (λ (q, n, f). let m : suc p ≡ length (z ∷ xs) + q = omega (arith, n) in inr (q, m, f))
      (at_append xs ys p x e)

  pub before_append : (xs ys : List X) (i : ℕ) (x : X) → slice_get xs i ≡ Some x
      → slice_get (xs ++ ys) i ≡ Some x
  before_append [] ys i x e = absurd (cc)
  before_append (y ∷ xs) ys zero x e = e
  before_append (y ∷ xs) ys (suc i) x e = before_append xs ys i x e

  pub after_append : (xs ys : List X) (i : ℕ) → slice_get (xs ++ ys) (length xs + i)
      ≡ slice_get ys i
  after_append [] ys i =
      let e : 0 + i ≡ i = omega arith in ap (λ (j : ℕ). slice_get ys j) e
  after_append (x ∷ xs) ys i =
      let e : length (x ∷ xs) + i ≡ suc (length xs + i) = omega arith in
      ap (λ (j : ℕ). slice_get (x ∷ xs ++ ys) j) e ∙ after_append xs ys i

  -- an element of the front of a list, and of what is left behind it
  pub at_taken : (n : ℕ) (xs : List X) (i : ℕ) → i < n
      → slice_get (take n xs) i ≡ slice_get xs i
  at_taken zero xs i lt = absurd (omega arith)
  at_taken (suc n) [] i lt = refl
  at_taken (suc n) (x ∷ xs) zero lt = refl
  at_taken (suc n) (x ∷ xs) (suc i) lt = at_taken n xs i (omega arith)

  pub from_taken : (n : ℕ) (xs : List X) (i : ℕ) (x : X) → slice_get (take n xs) i ≡ Some x
      → slice_get xs i ≡ Some x
  from_taken zero [] i x at = absurd (cc)
  from_taken zero (y ∷ xs) i x at = absurd (cc)
  from_taken (suc n) [] i x at = absurd (cc)
  from_taken (suc n) (y ∷ xs) zero x at = at
  from_taken (suc n) (y ∷ xs) (suc i) x at = from_taken n xs i x at

  pub at_dropped : (n : ℕ) (xs : List X) (i : ℕ)
      → slice_get (drop n xs) i ≡ slice_get xs (n + i)
  at_dropped zero [] i = refl
  at_dropped zero (x ∷ xs) i =
      let same : i ≡ zero + i = omega arith in ap (slice_get (x ∷ xs)) same
  at_dropped (suc n) [] i = refl
  at_dropped (suc n) (x ∷ xs) i =
      let same : suc (n + i) ≡ suc n + i = omega arith in
      at_dropped n xs i ∙ ap (slice_get (x ∷ xs)) same

  -- an element of a list with one more
  pub at_push : (xs : List X) (x y : X) (i : ℕ) → slice_get (xs ++ x ∷ []) i ≡ Some y
      → (slice_get xs i ≡ Some y) ⊎ ((i ≡ length xs) × (y ≡ x))
  at_push [] x y zero e = let same : x ≡ y = cc in inr (refl, sym same)
  at_push [] x y (suc i) e = absurd (cc)
  at_push (z ∷ xs) x y zero e = inl e
  at_push (z ∷ xs) x y (suc i) e =
      ⊎_elim inl
      (λ p. let n : suc i ≡ length (z ∷ xs) = omega (arith, p.0) in inr (n, p.1))
      (at_push xs x y i e)

  pub last_push : (xs : List X) (x : X) → slice_get (xs ++ x ∷ []) (length xs) ≡ Some x
  last_push [] x = refl
  last_push (z ∷ xs) x = last_push xs x

  -- what is said of each element of a list, and of one that follows
  pub each_more : (said : ℕ → X → Type 0) (xs new : List X) (x : X) (n : ℕ)
      → new ≡ xs ++ x ∷ [] → n ≡ length xs
      → ((i : ℕ) (y : X) → slice_get xs i ≡ Some y → said i y) → said n x
      → (i : ℕ) (y : X) → slice_get new i ≡ Some y → said i y
  each_more said xs new x n is count before here i y at =
      ⊎_elim (λ early. before i y early)
      (λ last. subst (λ (z : X). said i z) (sym last.1)
      (subst (λ (j : ℕ). said j x) (sym (last.0 ∙ sym count)) here))
      (at_push xs x y i (subst (λ (l : List X). slice_get l i ≡ Some y) is at))
