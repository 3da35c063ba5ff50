-- The first ticks of a history, read back, whatever it is a history of.
use Rattle.std.specs.Prelude.{◌≡◌, ◌<◌, ◌++◌, ◌∷◌, ℕ, zero, suc, [], length, get_or}
use Rattle.std.proofs.Common.{refl, sym, ◌∙◌, ap, arith, ⊎_elim, length-append}
use Rattle.std.proofs.lemmas.Bool.{cases_lt}
use Rattle.std.proofs.lemmas.List.{get_or_append_left}
use Rattle.std.proofs.Math.Seq.{get_or-append_seam}
use Rattle.model_history.specs.Recorded.{first_ticks}

module _ {A : Type 0} (u : ℕ → A) where
  pub length-first_ticks : (n : ℕ) → length (first_ticks u n) ≡ n
  length-first_ticks zero = refl
  length-first_ticks (suc n) =
      omega (arith, length-append (first_ticks u n) (u n ∷ []), length-first_ticks n)

  pub get_or-first_ticks : (n k : ℕ) (d : A) → k < n → get_or (first_ticks u n) k d ≡ u k
  get_or-first_ticks zero k d lt = absurd (omega arith)
  get_or-first_ticks (suc n) k d lt =
      ⊎_elim
      (λ low.
      let inside : k < length (first_ticks u n) = omega (arith, length-first_ticks n) in
      get_or_append_left (first_ticks u n) (u n ∷ []) d k inside ∙ get_or-first_ticks n k d low)
      (λ high.
      let last : k ≡ length (first_ticks u n) = omega (arith, length-first_ticks n) in
      ap (λ (j : ℕ). get_or (first_ticks u n ++ u n ∷ []) j d) last
      ∙ get_or-append_seam (first_ticks u n) (u n) [] d
      ∙ ap u (sym (length-first_ticks n)) ∙ ap u (sym last))
      (cases_lt k n)
