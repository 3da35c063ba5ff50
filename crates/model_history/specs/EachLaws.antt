-- Laws of lists made of a list for each number.
use Rattle.std.proofs.Common.{◌≡◌, ◌<◌, ◌≤◌, ◌+◌, ◌++◌, ℕ, zero, suc, List, refl, ◌∙◌, ap, arith}
use Rattle.std.proofs.Common.{append_assoc}
use Rattle.std.proofs.lemmas.List.Elements.{All-nil, All-append}
use Rattle.std.specs.List.{All}
use Rattle.model_history.specs.Each.{each_below}

-- the list of one number more
pub list_more : {A : Type 0} (pre old new : List A) (f : ℕ → List A) (k : ℕ)
    → old ≡ pre ++ each_below k f → new ≡ old ++ f k → new ≡ pre ++ each_below (k + 1) f
list_more {A = A} pre old new f k start step =
    let next : suc k ≡ k + 1 = omega arith in
    step
    ∙ ap (λ (l : List A). l ++ f k) start
    ∙ append_assoc pre (each_below k f) (f k)
    ∙ ap (λ (m : ℕ). pre ++ each_below m f) next

-- the last of a loop
pub list_done : {A : Type 0} (pre list : List A) (f : ℕ → List A) (k n : ℕ) → n ≤ k → k ≤ n
    → list ≡ pre ++ each_below k f → list ≡ pre ++ each_below n f
list_done {A = A} pre list f k n over under is =
    let last : k ≡ n = omega arith in is ∙ ap (λ (m : ℕ). pre ++ each_below m f) last

-- lists that are the same
pub each_below-same : {A : Type 0} (n : ℕ) (f g : ℕ → List A) → ((k : ℕ) → k < n → f k ≡ g k)
    → each_below n f ≡ each_below n g
each_below-same zero f g same = refl
each_below-same {A = A} (suc n) f g same =
    ap (λ (l : List A). l ++ f n) (each_below-same n f g (λ k lt. same k (omega arith)))
    ∙ ap (λ (l : List A). each_below n g ++ l) (same n (omega arith))

-- what holds of each element of each list
pub All-each_below : {A : Type 0} (P : A → Type 0) (f : ℕ → List A) (n : ℕ)
    → ((k : ℕ) → k < n → All P (f k)) → All P (each_below n f)
All-each_below P f zero each = All-nil P
All-each_below P f (suc n) each =
    All-append P (each_below n f) (f n) (All-each_below P f n (λ k lt. each k (omega arith)))
    (each n (omega arith))
