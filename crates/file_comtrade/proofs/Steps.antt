-- Steps one after another.
use Rattle.std.proofs.Common.{◌≡◌, ◌+◌, ◌<◌, ℕ, zero, suc, Result, Ok, ap, sym, ◌∙◌, subst}
use Rattle.std.proofs.Common.{arith, add-one, inl, inr}
use Rattle.std.proofs.lemmas.Bool.{cases_lt}
use Rattle.base_memory.specs.{CheckLaws.fails_first, Gives.◌>>=◌, Gives.Fails}
use Rattle.base_memory.specs.declared.stopped.Stopped.{Stopped}
use Rattle.file_comtrade.specs.Steps.{steps}

module _ {S F : Type 0} (step : S → ℕ → Result S F) (start : S) where
  -- one step more
  pub steps_more : (k : ℕ) (s t : S) → steps step start k ≡ Ok s → step s k ≡ Ok t
      → steps step start (k + 1) ≡ Ok t
  steps_more k s t so_far next =
      rw add-one (ap (λ (r : Result S F). r >>= λ x. step x k) so_far ∙ next)

  -- a step that fails
  fails_here : (why : Stopped F) (k : ℕ) (s : S) → steps step start k ≡ Ok s
      → Fails why (step s k) → Fails why (steps step start (suc k))
  fails_here why k s so_far fails =
      let P : Result S F → Type 0 = λ r. Fails why (r >>= λ x. step x k) in
      subst P (sym so_far) fails

  fails_later : (why : Stopped F) (k n : ℕ) → k < n → Fails why (steps step start (suc k))
      → Fails why (steps step start n)
  fails_later why k zero below fails = absurd (omega arith)
  fails_later why k (suc n) below fails = elim (cases_lt k n) [
    | inl less ↦ fails_first why (steps step start n) (λ s. step s n)
        (fails_later why k n less fails)
    | inr more ↦ (
        let same : k ≡ n = omega arith in
        let P : ℕ → Type 0 = λ j. Fails why (steps step start (suc j)) in
        subst P same fails
        )
  ]

  -- fails all
  pub steps_fail : (why : Stopped F) (k n : ℕ) (s : S) → k < n → steps step start k ≡ Ok s
      → Fails why (step s k) → Fails why (steps step start n)
  steps_fail why k n s below so_far fails =
      fails_later why k n below (fails_here why k s so_far fails)
