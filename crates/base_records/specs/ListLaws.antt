-- Laws of lists that grow at their end, of tests of mapped elements, and of places.
use Rattle.std.specs.Prelude.{◌≡◌, ◌<◌, ◌||◌, ℕ, Bool, true, false, cond, List, [], ◌∷◌, ◌++◌}
use Rattle.std.specs.Prelude.{length, map, nat_lt, Some, None, refl}
use Rattle.std.specs.List.{list_any, All, position_from, position_or_len}
use Rattle.std.proofs.Common.{ap, ◌∙◌, arith}
use Rattle.std.proofs.lemmas.Bool.{ltb-true}
use Rattle.std.proofs.lemmas.Iterator.Adapters.{position_from-zero}
use Rattle.std.proofs.lemmas.List.Elements.{All-nil, All-cons, All-head, All-tail}

pub list_any-map : {X Y : Type 0} (f : X → Y) (p : Y → Bool) (xs : List X)
    → list_any p (map f xs) ≡ list_any (λ x. p (f x)) xs
list_any-map f p [] = refl
list_any-map f p (x ∷ xs) = ap (λ b. p (f x) || b) (list_any-map f p xs)

pub All-front : {X : Type 0} (P : X → Type 0) (xs ys : List X) → All P (xs ++ ys) → All P xs
All-front P [] ys all = All-nil P
All-front P (x ∷ xs) ys all =
    All-cons P x xs (All-head P x (xs ++ ys) all)
    (All-front P xs ys (All-tail P x (xs ++ ys) all))

pub All-last : {X : Type 0} (P : X → Type 0) (xs : List X) (x : X) → All P (xs ++ x ∷ []) → P x
All-last P [] x all = All-head P x [] all
All-last P (y ∷ xs) x all = All-last P xs x (All-tail P y (xs ++ x ∷ []) all)

-- a place that was found is within the list
pub position_within : {K : Type 0} (test : K → Bool) (xs : List K) (i : ℕ)
    → position_from test 0 xs ≡ Some i → i < length xs
position_within test xs i e =
    let place : ℕ = position_or_len test xs in
    first_within (nat_lt place (length xs)) place i (length xs) (ltb-true place (length xs))
    (position_from-zero test xs ∙ e)
  where
    first_within : (b : Bool) (n i m : ℕ) → (b ≡ true → n < m) → cond b (Some n) None ≡ Some i
        → i < m
    first_within true n i m inside e =
        let same : n ≡ i = cc in
        let less = inside refl in
        omega arith
    first_within false n i m inside e = absurd (cc)
