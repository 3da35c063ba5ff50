-- Where times never fall, one sample alone holds at an instant.
use Rattle.std.specs.Prelude.{◌≡◌, ◌≤◌, ◌<◌, ◌+◌, ℕ, List, length}
use Rattle.std.specs.Prelude.{slice_index}
use Rattle.std.proofs.Common.{arith, inl, inr, subst, sym, zero, suc}
use Rattle.std.proofs.lemmas.Bool.{cases_lt}
use Rattle.file_comtrade.specs.{Ticks.IsHolding}
use Rattle.file_comtrade.specs.Levels.{NeverFalls}

-- then an earlier sample's time is not later
pub never_falls : (times : List ℕ) → NeverFalls times → (j k : ℕ) → j ≤ k → k < length times
    → slice_index times j ≤ slice_index times k
never_falls times never j zero upto inside =
    let same : j ≡ 0 = omega arith in
    let P : ℕ → Type 0 = λ n. slice_index times n ≤ slice_index times 0 in
    subst P (sym same) (omega arith)
never_falls times never j (suc k) upto inside = elim (cases_lt j (suc k)) [
  | inl less ↦ (
      let before = never_falls times never j k (omega arith) (omega arith) in
      let next = never k (omega arith) in
      let P : ℕ → Type 0 = λ n. slice_index times k ≤ slice_index times n in
      let same : k + 1 ≡ suc k = omega arith in
      let later = subst P same next in
      omega (arith, before, later)
      )
  | inr more ↦ (
      let same : j ≡ suc k = omega arith in
      let P : ℕ → Type 0 = λ n. slice_index times n ≤ slice_index times (suc k) in
      subst P (sym same) (omega arith)
      )
]

one_before : (times : List ℕ) (instant a b : ℕ) → NeverFalls times → a < b
    → IsHolding times instant a → IsHolding times instant b → ⊥
one_before times instant a b never less first second =
    let inside = second.inside in
    let upto = never_falls times never (a + 1) b (omega arith) inside in
    let last = first.last (omega (arith, inside)) in
    let begun = second.begun in
    omega (arith, last, begun, upto)

-- so one sample alone holds at an instant
pub holds_once : (times : List ℕ) (instant i j : ℕ) → NeverFalls times → IsHolding times instant i
    → IsHolding times instant j → i ≡ j
holds_once times instant i j never here there = elim (cases_lt i j) [
  | inl less ↦ absurd (one_before times instant i j never less here there)
  | inr more ↦ elim (cases_lt j i) [
    | inl less ↦ absurd (one_before times instant j i never less there here)
    | inr again ↦ omega arith
  ]
]
