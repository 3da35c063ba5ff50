-- Texts that grow piece by piece.
use Rattle.std.proofs.Common.{◌≡◌, ◌++◌, ℕ, List, ◌∙◌, ap, append_assoc}

-- one piece more
pub piece_more : (old mid new a b : List ℕ) → mid ≡ old ++ a → new ≡ mid ++ b
    → new ≡ old ++ (a ++ b)
piece_more old mid new a b first second =
    second ∙ ap (λ (l : List ℕ). l ++ b) first ∙ append_assoc old a b
