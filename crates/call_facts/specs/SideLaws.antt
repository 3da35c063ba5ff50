-- Lists side by side, made one by one.
use Rattle.std.proofs.Common.{◌≡◌, ℕ, ◌<◌, ◌+◌, List, [], ◌∷◌, ◌++◌, Some, length, length-append, refl}
use Rattle.std.proofs.Common.{sym, ◌∙◌, ap, subst, arith, ⊎_elim}
use Rattle.std.proofs.Common.{Bool, suc, get_or, take}
use Rattle.std.proofs.lemmas.List.{take_more}
use Rattle.std.proofs.lemmas.Option.{slice_get_within}
use Rattle.std.specs.Prelude.{slice_get}
use Rattle.model_history.specs.ListLaws.{at_push}
use Rattle.call_facts.specs.Lists.{EachOf, if_one, those_below}

module _ {X Y : Type 0} (said : X → Y → Type 0) where
  pub each_none : EachOf said [] []
  each_none = record { count = refl; each = λ i x y at there. absurd (cc) }

  -- one more on both sides
  pub each_push : (xs : List X) (ys more : List Y) (x : X) (y : Y) → more ≡ ys ++ y ∷ []
      → said x y → EachOf said xs ys → EachOf said (xs ++ x ∷ []) more
  each_push xs ys more x y is here so_far =
      rw is
      (record {
        count = length-append ys (y ∷ []) ∙ ap (λ (n : ℕ). n + 1) so_far.count
            ∙ sym (length-append xs (x ∷ []));
        each = λ i u v at there.
            ⊎_elim
            (λ (before : slice_get xs i ≡ Some u).
            ⊎_elim
            (λ (also : slice_get ys i ≡ Some v). so_far.each i u v before also)
            (λ last. absurd (omega (arith, slice_get_within xs i u before, last.0, so_far.count)))
            (at_push ys y v i there))
            (λ last.
            ⊎_elim
            (λ (before : slice_get ys i ≡ Some v).
            absurd (omega (arith, slice_get_within ys i v before, last.0, so_far.count)))
            (λ also. subst (λ (a : X). said a v) (sym last.1)
            (subst (λ (b : Y). said x b) (sym also.1) here))
            (at_push ys y v i there))
            (at_push xs x u i at);
      })

  pub each_more : (xs : List X) (ys more : List Y) (i : ℕ) (d : X) (y : Y) → i < length xs
      → more ≡ ys ++ y ∷ [] → said (get_or xs i d) y → EachOf said (take i xs) ys
      → EachOf said (take (i + 1) xs) more
  each_more xs ys more i d y lt is here so_far =
      subst (λ (zs : List X). EachOf said zs more) (sym (take_more xs i d lt))
      (each_push (take i xs) ys more (get_or xs i d) y is here so_far)

  pub each_item : (xs : List X) (ys more : List Y) (i : ℕ) (x : X) (y : Y) → i < length xs
      → x ≡ get_or xs i x → more ≡ ys ++ y ∷ [] → said x y → EachOf said (take i xs) ys
      → EachOf said (take (i + 1) xs) more
  each_item xs ys more i x y lt at is here so_far =
      each_more xs ys more i x y lt is (subst (λ (z : X). said z y) at here) so_far

-- there is one element at a place
pub one_at : {X : Type 0} (xs : List X) (i : ℕ) (x y : X) → slice_get xs i ≡ Some x
    → slice_get xs i ≡ Some y → y ≡ x
one_at xs i x y here there = let both : Some x ≡ Some y = sym here ∙ there in cc

-- the numbers below one more
pub below_more : (is : ℕ → Bool) (n : ℕ)
    → those_below is (n + 1) ≡ those_below is n ++ if_one (is n) n
below_more is n = let next : n + 1 ≡ suc n = omega arith in ap (those_below is) next
