-- Texts that grow piece by piece.
use Rattle.std.proofs.Common.{◌≡◌, ◌++◌, ℕ, List, ◌∙◌, ap, append_assoc}

-- the first piece
pub begun : (old new x x' : List ℕ) → new ≡ old ++ x → x ≡ x' → new ≡ old ++ x'
begun old new x x' step same = step ∙ ap (λ (l : List ℕ). old ++ l) same

-- one piece more
pub grown : (old mid new text x x' : List ℕ) → mid ≡ old ++ text → new ≡ mid ++ x → x ≡ x'
    → new ≡ old ++ (text ++ x')
grown old mid new text x x' start step same =
    step
    ∙ ap (λ (l : List ℕ). l ++ x) start
    ∙ append_assoc old text x
    ∙ ap (λ (l : List ℕ). old ++ (text ++ l)) same
