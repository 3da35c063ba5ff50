-- A fact of each element of a list, and of one more.
use Rattle.std.proofs.Common.{◌≡◌, ℕ, ◌+◌, ◌<◌, List, [], ◌∷◌, ◌++◌, length, sym, ◌∙◌, ap, arith}
use Rattle.std.proofs.Common.{subst, ⊎_elim, length-append}
use Rattle.std.proofs.lemmas.Bool.{cases_lt}
use Rattle.std.proofs.lemmas.List.{get_or_append_left}
use Rattle.std.proofs.Math.Seq.{get_or-append_seam}
use Rattle.std.specs.Prelude.{get_or}

-- so many elements, of each of which the fact holds
pub record Each {A : Type 0} (P : ℕ → A → Type 0) (none : A) (xs : List A) (n : ℕ) : Type 0 where
  pub many : length xs ≡ n
  pub each : (j : ℕ) → j < n → P j (get_or xs j none)

pub each_more : {A : Type 0} (P : ℕ → A → Type 0) (none : A) (xs new : List A) (x : A) (n : ℕ)
    → Each P none xs n → new ≡ xs ++ x ∷ [] → P n x → Each P none new (n + 1)
each_more {A} P none xs new x n before more now =
    let long : length xs ≡ n = before.many in
    record {
      many = omega (arith, ap length more, length-append xs (x ∷ []), long);
      each = λ j lt.
          ⊎_elim
          (λ early.
          subst (P j)
          (sym (ap (λ (l : List A). get_or l j none) more
          ∙ get_or_append_left xs (x ∷ []) none j (omega (arith, early, long))))
          (before.each j early))
          (λ late.
          let last : j ≡ length xs = omega (arith, lt, late, long) in
          let here : n ≡ j = omega (arith, last, long) in
          subst (P j)
          (sym (ap (λ (l : List A). get_or l j none) more
          ∙ ap (λ (k : ℕ). get_or (xs ++ x ∷ []) k none) last
          ∙ get_or-append_seam xs x [] none))
          (subst (λ (k : ℕ). P k x) here now))
          (cases_lt j n);
    }
