-- Lists made of a value for each tick.
use Rattle.std.proofs.Common.{◌≡◌, ◌+◌, ◌++◌, ◌∷◌, [], ℕ, suc, List, ◌∙◌, ap, arith}
use Rattle.model_history.specs.Recorded.{first_ticks}

-- the value of one number more
pub tick_more : {A : Type 0} (u : ℕ → A) (k : ℕ) (old new : List A) (x : A)
    → old ≡ first_ticks u k → new ≡ old ++ x ∷ [] → x ≡ u k → new ≡ first_ticks u (k + 1)
tick_more {A = A} u k old new x start step is =
    let next : suc k ≡ k + 1 = omega arith in
    step
    ∙ ap (λ (l : List A). l ++ x ∷ []) start
    ∙ ap (λ (y : A). first_ticks u k ++ y ∷ []) is
    ∙ ap (λ (m : ℕ). first_ticks u m) next
