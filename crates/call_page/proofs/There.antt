-- What is so of the element at a place, where that is known.
use Rattle.std.proofs.Common.{◌≡◌, ℕ, ◌<◌, List, Some, length, get_or, refl, sym, subst}
use Rattle.std.proofs.lemmas.Option.{slice_get_read}
use Rattle.std.specs.Prelude.{slice_get}
use Rattle.call_facts.specs.{Lists.At, SideLaws.one_at}

-- what is so of the element that is there
pub at_this : {X : Type 0} (xs : List X) (i : ℕ) (x : X) (so : X → Type 0)
    → slice_get xs i ≡ Some x → so x → At xs i so
at_this xs i x so there here = λ y also. subst so (sym (one_at xs i x y there also)) here

-- or of the one that was read there, of the same list
pub at_read : {X : Type 0} (xs ys : List X) (i : ℕ) (x : X) (so : X → Type 0) → ys ≡ xs
    → i < length xs → x ≡ get_or ys i x → so x → At xs i so
at_read xs ys i x so same lt is here =
    at_this xs i x so
    (slice_get_read xs (length xs) i x refl lt
    (subst (λ (zs : List _). x ≡ get_or zs i x) same is)) here
