-- What holds of each number below a small one.
use Rattle.std.proofs.Common.{◌≡◌, ℕ, zero, suc, ◌<◌, Bool, arith, subst, ⊎_elim}
use Rattle.std.proofs.lemmas.Bool.{and_parts, cases_lt}
use Rattle.std.specs.Prelude.{IsTrue}
use Rattle.model_history.specs.Elements.{every_below}

pub below_three : (P : ℕ → Type 0) → P 0 → P 1 → P 2 → (c : ℕ) → c < 3 → P c
below_three P a b d zero lt = a
below_three P a b d (suc zero) lt = b
below_three P a b d (suc (suc zero)) lt = d
below_three P a b d (suc (suc (suc c))) lt = absurd (omega (arith, lt))

pub below_six : (P : ℕ → Type 0) → P 0 → P 1 → P 2 → P 3 → P 4 → P 5 → (c : ℕ) → c < 6 → P c
below_six P a b d e f g zero lt = a
below_six P a b d e f g (suc zero) lt = b
below_six P a b d e f g (suc (suc zero)) lt = d
below_six P a b d e f g (suc (suc (suc zero))) lt = e
below_six P a b d e f g (suc (suc (suc (suc zero)))) lt = f
below_six P a b d e f g (suc (suc (suc (suc (suc zero))))) lt = g
below_six P a b d e f g (suc (suc (suc (suc (suc (suc c)))))) lt = absurd (omega (arith, lt))

-- a test that all numbers below n pass
pub each_passes : (test : ℕ → Bool) (n : ℕ) → IsTrue (every_below test n) → (i : ℕ) → i < n
    → IsTrue (test i)
each_passes test zero all i lt = absurd (omega (arith, lt))
each_passes test (suc n) all i lt =
    let both = and_parts (test n) (every_below test n) all in
    ⊎_elim (λ before. each_passes test n both.1 i before)
    (λ late. let last : n ≡ i = omega (arith, lt, late) in
    subst (λ (j : ℕ). IsTrue (test j)) last both.0)
    (cases_lt i n)
