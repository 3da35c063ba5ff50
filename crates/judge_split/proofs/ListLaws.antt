-- Lists with more behind.
use Rattle.std.proofs.Common.{◌≡◌, ◌⊎◌, ◌+◌, ℕ, List, [], ◌∷◌, ◌++◌, Some, length}
use Rattle.std.proofs.Common.{length-append, inl, inr, sym, ◌∙◌, ap, subst, arith, ⊎_elim}
use Rattle.std.specs.Prelude.{IfSome, Option, slice_get}
use Rattle.model_history.specs.ListLaws.{at_push}

module _ {X : Type 0} where
  pub if_some_is : (o : Option X) (x : X) (P : X → Type 0) → o ≡ Some x → IfSome o P → P x
  if_some_is o x P is some = subst (λ (p : Option X). IfSome p P) is some

  -- an element of a list with two more
  pub at_two : (xs new : List X) (a b : X) → new ≡ (xs ++ a ∷ []) ++ b ∷ [] → (i : ℕ) (x : X)
      → slice_get new i ≡ Some x
      → (slice_get xs i ≡ Some x) ⊎ (((i ≡ length xs) × (x ≡ a)) ⊎ ((i ≡ length xs + 1) × (x ≡ b)))
  at_two xs new a b is i x at =
      ⊎_elim
      (λ before.
      ⊎_elim (λ early. inl early) (λ first. inr (inl (first.0, first.1))) (at_push xs a x i before))
      (λ last.
      inr (inr (last.0 ∙ length-append xs (a ∷ []), last.1)))
      (at_push (xs ++ a ∷ []) b x i (ap (λ (l : List X). slice_get l i) (sym is) ∙ at))

  pub two_longer : (xs new : List X) (a b : X) → new ≡ (xs ++ a ∷ []) ++ b ∷ []
      → length new ≡ length xs + 2
  two_longer xs new a b is =
      let one = length-append xs (a ∷ []) in
      let two = length-append (xs ++ a ∷ []) (b ∷ []) in
      let same = ap (λ (l : List X). length l) is in
      omega arith
