-- The line of a step, from its start to its numbers.
use Rattle.std.proofs.Common.{◌≡◌, ℕ, List, ◌∷◌, ◌++◌, drop, sym, ◌∙◌, ap}
use Rattle.std.proofs.lemmas.List.{append_cancel_left}
use Rattle.std.specs.Prelude.{codes}
use Rattle.cert_settle.specs.Grammar.{step_line, two_numbers}

module _ (bytes named at name : List ℕ) (from value : ℕ)
    (starts : bytes ≡ codes "step " ++ named) (goes_on : named ≡ name ++ at)
    (is : bytes ≡ step_line name from value) where
  -- what stands behind the name
  pub behind_name : at ≡ 64 ∷ two_numbers from value
  behind_name =
      append_cancel_left name at (64 ∷ two_numbers from value)
      (sym goes_on ∙ ap (drop 5) (sym starts ∙ is))

  pub numbers_are : (numbers : List ℕ) → at ≡ codes "@" ++ numbers
      → numbers ≡ two_numbers from value
  numbers_are numbers behind = ap (drop 1) (sym behind ∙ behind_name)
