-- The parts of a record, one after another.
use Rattle.std.proofs.Common.{◌≡◌, ◌++◌, ◌∙◌, ℕ, List, [], ◌∷◌, ap}

pub joined : (own recorder terminal signal from channel said inverted told : List ℕ)
    (fields rest course : List (List ℕ)) → own ≡ recorder → terminal ∷ signal ∷ from ∷ [] ≡ fields
    → channel ≡ said → inverted ≡ told → rest ≡ course
    → own ∷ terminal ∷ signal ∷ from ∷ channel ∷ inverted ∷ rest
    ≡ recorder ∷ [] ++ fields ++ (said ∷ told ∷ []) ++ course
joined own recorder terminal signal from channel said inverted told fields rest course a b c d e =
    ap (λ (x : List ℕ). x ∷ terminal ∷ signal ∷ from ∷ channel ∷ inverted ∷ rest) a
    ∙ ap (λ (x : List (List ℕ)). recorder ∷ [] ++ x ++ (channel ∷ inverted ∷ []) ++ rest) b
    ∙ ap (λ (x : List ℕ). recorder ∷ [] ++ fields ++ (x ∷ inverted ∷ []) ++ rest) c
    ∙ ap (λ (x : List ℕ). recorder ∷ [] ++ fields ++ (said ∷ x ∷ []) ++ rest) d
    ∙ ap (λ (x : List (List ℕ)). recorder ∷ [] ++ fields ++ (said ∷ told ∷ []) ++ x) e
