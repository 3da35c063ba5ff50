-- A list with one more wave.
use Rattle.std.proofs.Common.{◌≡◌, ℕ, ◌+◌, ◌<◌, List, [], ◌∷◌, ◌++◌, length}
use Rattle.std.proofs.Common.{sym, ◌∙◌, ap, arith, subst, ⊎_elim}
use Rattle.std.proofs.lemmas.Bool.{cases_lt}
use Rattle.std.proofs.lemmas.List.{get_or_append_left}
use Rattle.std.proofs.Math.Seq.{get_or-append_seam}
use Rattle.std.specs.Prelude.{get_or}
use Rattle.run_signal.specs.declared.tern.Tern.{Tern}

-- a list with one more wave
pub with_wave : (P : ℕ → List Tern → Type 0) (waves new : List (List Tern)) (wave : List Tern)
    (i : ℕ) → length waves ≡ i → new ≡ waves ++ wave ∷ []
    → ((j : ℕ) → j < i → P j (get_or waves j [])) → P i wave
    → (j : ℕ) → j < i + 1 → P j (get_or new j [])
with_wave P waves new wave i long more before now j lt =
    ⊎_elim
    (λ early.
    let inside : j < length waves = omega (arith, early, long) in
    let same : get_or waves j [] ≡ get_or new j [] =
    sym (ap (λ (l : List (List Tern)). get_or l j []) more
    ∙ get_or_append_left waves (wave ∷ []) [] j inside) in
    subst (P j) same (before j early))
    (λ late.
    let last : j ≡ length waves = omega (arith, lt, late, long) in
    let same : wave ≡ get_or new j [] =
    sym (ap (λ (l : List (List Tern)). get_or l j []) more
    ∙ ap (λ (k : ℕ). get_or (waves ++ wave ∷ []) k []) last
    ∙ get_or-append_seam waves wave [] []) in
    let here : i ≡ j = omega (arith, last, long) in
    let Q : ℕ → Type 0 = λ k. P k (get_or new j []) in
    subst Q here (subst (P i) same now))
    (cases_lt j i)
