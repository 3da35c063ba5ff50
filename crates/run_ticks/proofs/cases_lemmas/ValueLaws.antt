-- The values of all ticks in one list.
use Rattle.std.proofs.Common.{◌≡◌, ℕ, ◌+◌, ◌*◌, ◌%◌, ◌/◌, ◌<◌, List, [], ◌++◌, length, sym}
use Rattle.std.proofs.Common.{◌∙◌, ap, subst, arith, ⊎_elim}
use Rattle.std.proofs.lemmas.Nat.{mod-mul-add, div-mul-add, mul-add-lt}
use Rattle.std.proofs.lemmas.Option.{slice_get_within}
use Rattle.model_history.specs.Rails.{Rails}
use Rattle.run_step.specs.GatePairs.{GateSignals}
use Rattle.run_step.specs.WavesOf.{pair_in}
use Rattle.run_ticks.specs.cases.UnderWaves.{value_at}
use Rattle.std.specs.Prelude.{slice_get}
use Rattle.run_step.specs.{Ticks.ValuesAgree, Ticks.ValuesTold}
use Rattle.model_history.specs.ListLaws.{exists_at, at_append}

-- the rails of a value at the place of a gate and a tick
abbrev pub value_in : {X : Type 0} → (X → ℕ → Rails) → ℕ → List X → ℕ → ℕ → ℕ → Rails
value_in rails lane values width gate t =
    pair_in rails lane (slice_get values (value_at width gate t))

module _ {X : Type 0} (rails : X → ℕ → Rails) (lane : ℕ) (u : GateSignals) where
  pub values_none : (n : ℕ) → ValuesTold rails lane u n []
  values_none n p x at = absurd (cc)

  -- one more tick of values
  pub values_more : (t n : ℕ) (values column : List X) → length values ≡ t * n → length column ≡ n
      → ValuesAgree rails lane u t column → ValuesTold rails lane u n values
      → ValuesTold rails lane u n (values ++ column)
  values_more t n values column len wide agree told p x at =
      ⊎_elim
      (λ before. told p x before)
      (λ (q, e, f).
      let lt : q < n = subst (λ (m : ℕ). q < m) wide (slice_get_within column q x f) in
      let place : p ≡ t * n + q = e ∙ ap (λ (m : ℕ). m + q) len in
      let gate : p % n ≡ q = ap (λ (m : ℕ). m % n) place ∙ mod-mul-add t n q lt in
      let tick : p / n ≡ t = ap (λ (m : ℕ). m / n) place ∙ div-mul-add t n q lt in
      agree q x f ∙ sym (ap (λ (i : ℕ). u i (p / n)) gate ∙ ap (u q) tick))
      (at_append values column p x at)

  -- the pair at the place of a gate and a tick
  pub told_at : (values : List X) (width horizon gate t : ℕ) → length values ≡ horizon * width
      → ValuesTold rails lane u width values → gate < width → t < horizon
      → value_in rails lane values width gate t ≡ u gate t
  told_at values width horizon gate t count told inside before =
      let p = t * width + gate in
      let lt : p < width * horizon = mul-add-lt t width gate horizon before inside in
      let there : p < length values = omega (arith, lt, count) in
      let (x, at) = exists_at values p there in
      ap (pair_in rails lane) at
      ∙ told p x at
      ∙ ap (λ (i : ℕ). u i (p / width)) (mod-mul-add t width gate inside)
      ∙ ap (u gate) (div-mul-add t width gate inside)
