-- A text that scripts are needed for, of which there are few: it is taken, or it leaves its grammar.
use Rattle.std.proofs.Common.{◌≡◌, ◌⊎◌, ℕ, List, Option, Some, inl, inr}
use Rattle.model_line.specs.declared.script.Script.{Script}
use Rattle.call_lint.specs.declared.lint.linted.Outcome.{Outcome}
use Rattle.call_lint.specs.declared.lint.linted.Outcome.TheVariants.{Clean, Refused}
use Rattle.call_inspect.specs.Found.{IsTextFound, WithScripts}

module _ {A : Type 0} (Is : List Script → A → Type 0) (Leaves : List Script → ℕ → Type 0)
    (known : Option (List Script)) (all : List Script) (o : Outcome) where
  pub text_taken : (said : A) → known ≡ Some all → Is all said → o ≡ Clean
      → WithScripts (λ all o. IsTextFound (Is all) (Leaves all) o) known o
  text_taken said few is clean = rw few (inr (said, is, clean))

  pub text_refused : (n : ℕ) → known ≡ Some all → Leaves all n → o ≡ Refused
      → WithScripts (λ all o. IsTextFound (Is all) (Leaves all) o) known o
  text_refused n few leaves refused = rw few (inl (n, leaves, refused))
