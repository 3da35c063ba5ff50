-- Lists that are made of a list for each number.
use Rattle.std.proofs.Common.{◌≡◌, ◌<◌, ◌+◌, ◌*◌, ◌++◌, ◌∙◌, ℕ, zero, suc, List, [], ◌∷◌}
use Rattle.std.proofs.Common.{length, get_or, map, refl, ap, sym, arith, length-append, subst}
use Rattle.std.proofs.Math.Nat.{mul-suc}
use Rattle.std.proofs.lemmas.List.{map-append}
use Rattle.std.proofs.lemmas.List.FromFn.{map-range_with_len_more}
use Rattle.std.specs.List.{range_with_len}
use Rattle.model_history.specs.Each.{each_below}
use Rattle.file_records.proofs.recorded_lemmas.Fields.{rows_append, rows_text}

-- what holds of each element and its place, the first of which has this place
abbrev pub AtPlaces : {X : Type 0} → (ℕ → X → Type 0) → ℕ → List X → Type 0
AtPlaces P a [] = Unit {0}
AtPlaces P a (x ∷ xs) = P a x × AtPlaces P (a + 1) xs

pub length_below : {X : Type 0} (f : ℕ → List X) (w n : ℕ) → ((k : ℕ) → length (f k) ≡ w)
    → length (each_below n f) ≡ w * n
length_below f w zero long = omega arith
length_below f w (suc n) long =
    let here = long n in
    let before = length_below f w n long in
    let sum = length-append (each_below n f) (f n) in
    let more : w * suc n ≡ w * n + w = mul-suc w n in
    omega arith

pub map_below : {X Y : Type 0} (g : X → Y) (f : ℕ → List X) (n : ℕ)
    → map g (each_below n f) ≡ each_below n (λ k. map g (f k))
map_below g f zero = refl
map_below {X} {Y} g f (suc n) =
    map-append g (each_below n f) (f n) ∙ ap (λ (l : List Y). l ++ map g (f n)) (map_below g f n)

module _ {X : Type 0} (P : ℕ → X → Type 0) where
  pub places_append : (a b : ℕ) (xs ys : List X) → b ≡ a + length xs → AtPlaces P a xs → AtPlaces P b ys
      → AtPlaces P a (xs ++ ys)
  places_append a b [] ys same first second =
      let here : b ≡ a = omega arith in
      subst (λ (n : ℕ). AtPlaces P n ys) here second
  places_append a b (x ∷ xs) ys same first second =
      (first.0, places_append (a + 1) b xs ys (omega arith) first.1 second)

  pub places_at : (a k : ℕ) (xs : List X) (d : X) → k < length xs → AtPlaces P a xs → P (a + k) (get_or xs k d)
  places_at a k [] d within all = absurd (omega arith)
  places_at a zero (x ∷ xs) d within all =
      let here : a ≡ a + 0 = omega arith in
      subst (λ (n : ℕ). P n x) here all.0
  places_at a (suc k) (x ∷ xs) d within all =
      let next : a + 1 + k ≡ a + suc k = omega arith in
      subst (λ (n : ℕ). P n (get_or xs k d)) next (places_at (a + 1) k xs d (omega arith) all.1)

  -- each of the lists has so many elements
  pub places_below : (f : ℕ → List X) (w a n : ℕ) → ((k : ℕ) → length (f k) ≡ w)
      → ((k : ℕ) → k < n → AtPlaces P (a + w * k) (f k)) → AtPlaces P a (each_below n f)
  places_below f w a zero long all = tt
  places_below f w a (suc n) long all =
      let many = length_below f w n long in
      places_append a (a + w * n) (each_below n f) (f n) (omega arith)
      (places_below f w a n long (λ k less. all k (omega arith))) (all n (omega arith))

-- ---- texts

-- the text of the rows of each number
pub rows_below : (n : ℕ) (f : ℕ → List (List (List ℕ))) (g : ℕ → List ℕ)
    → ((k : ℕ) → k < n → rows_text (f k) ≡ g k) → rows_text (each_below n f) ≡ each_below n g
rows_below zero f g same = refl
rows_below (suc n) f g same =
    rows_append (each_below n f) (f n)
    ∙ ap (λ (l : List ℕ). l ++ rows_text (f n)) (rows_below n f g (λ k less. same k (omega arith)))
    ∙ ap (λ (l : List ℕ). each_below n g ++ l) (same n (omega arith))

-- of one row for each
pub rows_ranged : (n : ℕ) (f : ℕ → List (List ℕ)) (g : ℕ → List ℕ)
    → ((k : ℕ) → k < n → rows_text (f k ∷ []) ≡ g k)
    → rows_text (map f (range_with_len 0 n)) ≡ each_below n g
rows_ranged zero f g same = refl
rows_ranged (suc n) f g same =
    let next : n + 1 ≡ suc n = omega arith in
    let more : map f (range_with_len 0 (suc n)) ≡ map f (range_with_len 0 n) ++ f n ∷ [] =
    ap (λ (m : ℕ). map f (range_with_len 0 m)) (sym next)
    ∙ map-range_with_len_more f 0 n n (omega arith) in
    ap rows_text more
    ∙ rows_append (map f (range_with_len 0 n)) (f n ∷ [])
    ∙ ap (λ (l : List ℕ). l ++ rows_text (f n ∷ [])) (rows_ranged n f g (λ k less. same k (omega arith)))
    ∙ ap (λ (l : List ℕ). each_below n g ++ l) (same n (omega arith))
