-- The parameters for which the names of a list stand.
use Rattle.std.proofs.Common.{◌≡◌, ◌+◌, ℕ, suc, Bool, true, false, List, [], ◌∷◌, ◌++◌, sym, ap, ◌∙◌}
use Rattle.std.proofs.Common.{subst, arith}
use Rattle.std.specs.Prelude.{if◌then◌else◌}
use Rattle.std.specs.List.{All}
use Rattle.std.proofs.lemmas.List.Elements.{All-append, All-push, All-nil}
use Rattle.file_study.specs.times.Names.{those_below}

-- one number more, where it passes
pub those_more : (test : ℕ → Bool) (i : ℕ) (passes : Bool) (old new : List ℕ)
    → old ≡ those_below test i → passes ≡ test i
    → new ≡ old ++ (if passes then i ∷ [] else []) → new ≡ those_below test (i + 1)
those_more test i passes old new before is grown =
    let next : suc i ≡ i + 1 = omega arith in
    subst (λ n. new ≡ those_below test n) next (grown
    ∙ ap (λ xs. xs ++ (if passes then i ∷ [] else [])) before
    ∙ ap (λ (b : Bool). those_below test i ++ (if b then i ∷ [] else [])) is)

-- what holds of all, and of the number, holds of all with it
pub all_more : (P : ℕ → Type 0) (i : ℕ) (passes : Bool) (old new : List ℕ) → All P old → P i
    → new ≡ old ++ (if passes then i ∷ [] else []) → All P new
all_more P i true old new all one grown = subst (All P) (sym grown) (All-push P old i all one)
all_more P i false old new all one grown =
    subst (All P) (sym grown) (All-append P old [] all (All-nil P))
