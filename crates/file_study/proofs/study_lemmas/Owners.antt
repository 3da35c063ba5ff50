-- The terminals and the channels of a line, one by one.
use Rattle.std.proofs.Common.{◌≡◌, ℕ, List, [], ◌∷◌, length, map, refl, arith}
use Rattle.model_line.specs.{declared.line.Terminal.Terminal, ParamNames.name_at}

module _ {X : Type 0} (f : List ℕ → X) where
  pub two_named : (ts : List Terminal) → length ts ≡ 2
      → map (λ t. f t.name) ts ≡ f (name_at ts 0) ∷ f (name_at ts 1) ∷ []
  two_named [] e = absurd (omega arith)
  two_named (a ∷ []) e = absurd (omega arith)
  two_named (a ∷ b ∷ []) e = refl
  two_named (a ∷ b ∷ c ∷ ts) e = absurd (omega arith)

  pub three_named : (ts : List Terminal) → length ts ≡ 3
      → map (λ t. f t.name) ts
      ≡ f (name_at ts 0) ∷ f (name_at ts 1) ∷ f (name_at ts 2) ∷ []
  three_named [] e = absurd (omega arith)
  three_named (a ∷ []) e = absurd (omega arith)
  three_named (a ∷ b ∷ []) e = absurd (omega arith)
  three_named (a ∷ b ∷ c ∷ []) e = refl
  three_named (a ∷ b ∷ c ∷ d ∷ ts) e = absurd (omega arith)
