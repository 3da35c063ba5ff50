-- The first tick at which a signal is on rests on the ticks below a bound alone.
use Rattle.std.specs.Prelude.{◌≡◌, ◌<◌, ◌∷◌, ◌++◌, ℕ, zero, suc, Bool, List, [], refl}
use Rattle.std.specs.List.{position}
use Rattle.std.proofs.Common.{◌∙◌, ap, arith}
use Rattle.model_history.specs.Recorded.{first_ticks}
use Rattle.run_waves.specs.waves.FirstTick.{first_on}

first_ticks-same : (u v : ℕ → Bool) (n : ℕ) → ((t : ℕ) → t < n → u t ≡ v t)
    → first_ticks u n ≡ first_ticks v n
first_ticks-same u v zero same = refl
first_ticks-same u v (suc n) same =
    ap (λ (xs : List Bool). xs ++ u n ∷ []) (first_ticks-same u v n (λ t lt. same t (omega arith)))
    ∙ ap (λ (b : Bool). first_ticks v n ++ b ∷ []) (same n (omega arith))

-- it rests on the ticks below n alone
pub first_on-same : (u v : ℕ → Bool) (n : ℕ) → ((t : ℕ) → t < n → u t ≡ v t)
    → first_on u n ≡ first_on v n
first_on-same u v n same = ap (position (λ on. on)) (first_ticks-same u v n same)
