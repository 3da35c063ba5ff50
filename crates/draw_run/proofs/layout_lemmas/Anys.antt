-- An element of a list that has a first one.
use Rattle.std.proofs.Common.{◌⊎◌, zero, suc, List, [], ◌∷◌, refl, sym}
use Rattle.std.proofs.Common.{subst, inl, inr, arith}
use Rattle.std.specs.List.{Any}

pub any_here : {X : Type 0} (P : X → Type 0) (x : X) (xs : List X) → P x → Any P (x ∷ xs)
any_here P x xs p = (0, x, omega arith, refl, p)

pub any_later : {X : Type 0} (P : X → Type 0) (x : X) (xs : List X) → Any P xs → Any P (x ∷ xs)
any_later P x xs a = (suc a.0, a.1, (let less = a.2 in omega arith), a.3, a.4)

pub any_cases : {X : Type 0} (P : X → Type 0) (x : X) (xs : List X) → Any P (x ∷ xs)
    → P x ⊎ Any P xs
any_cases P x xs (zero, y, less, is, p) = inl (subst P (sym is) p)
any_cases P x xs (suc k, y, less, is, p) = inr (k, y, omega arith, is, p)

pub any_none : {X : Type 0} (P : X → Type 0) → Any P [] → ⊥
any_none P a = let less = a.2 in omega arith
