-- One time more, not before the last.
use Rattle.std.proofs.Common.{◌≡◌, ◌≤◌, ◌<◌, ◌+◌, ◌-◌, ℕ, List, [], ◌∷◌, ◌++◌, length, slice_index}
use Rattle.std.proofs.Common.{subst, sym, arith, inl, inr, ap, ◌∙◌, length-append}
use Rattle.std.proofs.lemmas.Bool.{cases_lt}
use Rattle.std.proofs.lemmas.Grind.{common_steps}
use Rattle.file_comtrade.specs.{Levels.NeverFalls, SampleViews.IsAfter, SampleViews.OneLater}

appended : (times : List ℕ) (time : ℕ) → NeverFalls times → IsAfter times time
    → NeverFalls (times ++ time ∷ [])
appended times time never later = λ k inside. at k inside
  where
    before : (k : ℕ) → k + 1 < length times
        → slice_index (times ++ time ∷ []) k ≤ slice_index (times ++ time ∷ []) (k + 1)
    before k inside = let h = never k inside in grind (arith, common_steps)

    last : (k : ℕ) → k + 1 ≡ length times
        → slice_index (times ++ time ∷ []) k ≤ slice_index (times ++ time ∷ []) (k + 1)
    last k end =
        let same : length times - 1 ≡ k = omega arith in
        let P : ℕ → Type 0 = λ n. slice_index times n ≤ time in
        let h = subst P same (later.after (omega arith)) in
        grind (arith, common_steps)

    at : (k : ℕ) → k + 1 < length (times ++ time ∷ [])
        → slice_index (times ++ time ∷ []) k ≤ slice_index (times ++ time ∷ []) (k + 1)
    at k inside = elim (cases_lt (k + 1) (length times)) [
      | inl less ↦ before k less
      | inr more ↦ last k (omega (arith, inside, length-append times (time ∷ [])))
    ]

pub falls_never : (old new : List ℕ) → NeverFalls old → OneLater old new → NeverFalls new
falls_never old new never one =
    subst NeverFalls (sym one.more) (appended old one.time never one.later)

pub one_more : (old new : List ℕ) → OneLater old new → length new ≡ length old + 1
one_more old new one = ap length one.more ∙ length-append old (one.time ∷ [])
