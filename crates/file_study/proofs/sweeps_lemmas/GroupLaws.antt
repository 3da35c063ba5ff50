-- The swept values of choices, one after another.
use Rattle.std.proofs.Common.{◌≡◌, ◌+◌, ◌-◌, ◌<◌, ◌++◌, ℕ, suc, Bool, true, false, cond, List, []}
use Rattle.std.proofs.Common.{◌∷◌, sym, ◌∙◌, ap, refl, map, arith, append_assoc, length}
use Rattle.std.specs.Prelude.{nat_lt}
use Rattle.std.proofs.lemmas.List.{map_push}
use Rattle.file_study.specs.study.Faults.{FaultValues}
use Rattle.file_study.specs.sweeps.Groups.{of_swept, swept_at, swept_from}

-- those of the next choice
pub swept_more : {X : Type 0} (view : X → List ℕ) (f : FaultValues) (n k : ℕ) (done : List X)
    (x : X) (total : List (List ℕ)) → k < n → view x ≡ swept_at f k
    → map view done ++ swept_from f k (n - k) ≡ total
    → map view (done ++ x ∷ []) ++ swept_from f (k + 1) (n - (k + 1)) ≡ total
swept_more view f n k done x total h is so_far =
    let left : suc (n - (k + 1)) ≡ n - k = omega (arith, h) in
    let rest = swept_from f (k + 1) (n - (k + 1)) in
    ap (λ r. r ++ rest) (map_push view done x)
    ∙ (append_assoc (map view done) (view x ∷ []) rest
    ∙ (ap (λ v. map view done ++ v ∷ rest) is
    ∙ (ap (λ m. map view done ++ swept_from f k m) left ∙ so_far)))

one_or_none : (b : Bool) (v : ℕ) (rest : List ℕ)
    → cond b (v ∷ rest) rest ≡ cond b (v ∷ []) [] ++ rest
one_or_none true v rest = refl
one_or_none false v rest = refl

-- one time and its value, and then the others
pub of_swept_more : (time : List ℕ) (times : List (List ℕ)) (v : ℕ) (vs : List ℕ)
    → of_swept (time ∷ []) (v ∷ []) ++ of_swept times vs ≡ of_swept (time ∷ times) (v ∷ vs)
of_swept_more time times v vs = sym (one_or_none (nat_lt 1 (length time)) v (of_swept times vs))

-- the first two
pub of_swept_first : (a b : List ℕ) (times : List (List ℕ)) (v w : ℕ) (vs values : List ℕ)
    → values ≡ ([] ++ of_swept (a ∷ []) (v ∷ [])) ++ of_swept (b ∷ []) (w ∷ [])
    → values ++ of_swept times vs ≡ of_swept (a ∷ b ∷ times) (v ∷ w ∷ vs)
of_swept_first a b times v w vs values is =
    ap (λ r. r ++ of_swept times vs) is
    ∙ (append_assoc (of_swept (a ∷ []) (v ∷ [])) (of_swept (b ∷ []) (w ∷ [])) (of_swept times vs)
    ∙ (ap (λ r. of_swept (a ∷ []) (v ∷ []) ++ r) (of_swept_more b times w vs)
    ∙ of_swept_more a (b ∷ times) v (w ∷ vs)))
