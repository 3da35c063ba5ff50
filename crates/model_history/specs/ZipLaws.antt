-- Laws of two lists of which a relation holds, place by place.
use Rattle.std.proofs.Common.{◌≡◌, ℕ, zero, suc, List, [], ◌∷◌, ◌++◌, Some, refl, ◌∙◌, ap, subst}
use Rattle.std.proofs.lemmas.List.Elements.{All-cons, All-head, All-nil, All-tail}
use Rattle.std.proofs.lemmas.Option.{same_Some}
use Rattle.std.specs.Prelude.{slice_get}
use Rattle.std.specs.List.{All, AllZip}

-- it holds of both, one after the other
pub zip_append : {A B : Type 0} (R : A → B → Type 0) (xs us : List A) (ys vs : List B)
    → AllZip R xs ys → AllZip R us vs → AllZip R (xs ++ us) (ys ++ vs)
zip_append R [] us [] vs zip more = more
zip_append R [] us (y ∷ ys) vs zip more = absurd zip
zip_append R (x ∷ xs) us [] vs zip more = absurd zip
zip_append R (x ∷ xs) us (y ∷ ys) vs zip more = (zip.0, zip_append R xs us ys vs zip.1 more)

pub zip_push : {A B : Type 0} (R : A → B → Type 0) (xs : List A) (ys : List B) (x : A) (y : B)
    → AllZip R xs ys → R x y → AllZip R (xs ++ x ∷ []) (ys ++ y ∷ [])
zip_push R xs ys x y zip now = zip_append R xs (x ∷ []) ys (y ∷ []) zip (now, tt)

module _ {A B : Type 0} (P : A → Type 0) (R : A → B → Type 0) where
  -- what follows of each of the second list
  pub zip_all : (Q : B → Type 0) → ((x : A) (y : B) → P x → R x y → Q y) → (xs : List A)
      (ys : List B) → All P xs → AllZip R xs ys → All Q ys
  zip_all Q follows [] [] each zip = All-nil Q
  zip_all Q follows [] (y ∷ ys) each zip = absurd zip
  zip_all Q follows (x ∷ xs) [] each zip = absurd zip
  zip_all Q follows (x ∷ xs) (y ∷ ys) each zip =
      All-cons Q y ys (follows x y (All-head P x xs each) zip.0)
      (zip_all Q follows xs ys (All-tail P x xs each) zip.1)

  -- what follows of the two at each place
  pub zip_each : (Q : A → B → Type 0) → ((x : A) (y : B) → P x → R x y → Q x y) → (xs : List A)
      (ys : List B) → All P xs → AllZip R xs ys → (i : ℕ) (x : A) (y : B)
      → slice_get xs i ≡ Some x → slice_get ys i ≡ Some y → Q x y
  zip_each Q follows [] ys each zip i x y at there = absurd (cc)
  zip_each Q follows (a ∷ xs) [] each zip i x y at there = absurd zip
  zip_each Q follows (a ∷ xs) (b ∷ ys) each zip zero x y at there =
      subst (Q x) (same_Some b y there)
      (subst (λ (z : A). Q z b) (same_Some a x at) (follows a b (All-head P a xs each) zip.0))
  zip_each Q follows (a ∷ xs) (b ∷ ys) each zip (suc i) x y at there =
      zip_each Q follows xs ys (All-tail P a xs each) zip.1 i x y at there

  -- one second list, where one element at most stands for each of the first
  pub zip_once : ((x : A) (y z : B) → P x → R x y → R x z → y ≡ z) → (xs : List A)
      (ys zs : List B) → All P xs → AllZip R xs ys → AllZip R xs zs → ys ≡ zs
  zip_once one [] [] [] each p q = refl
  zip_once one [] [] (z ∷ zs) each p q = absurd q
  zip_once one [] (y ∷ ys) zs each p q = absurd p
  zip_once one (x ∷ xs) [] zs each p q = absurd p
  zip_once one (x ∷ xs) (y ∷ ys) [] each p q = absurd q
  zip_once one (x ∷ xs) (y ∷ ys) (z ∷ zs) each p q =
      ap (λ (b : B). b ∷ ys) (one x y z (All-head P x xs each) p.0 q.0)
      ∙ ap (λ (l : List B). z ∷ l) (zip_once one xs ys zs (All-tail P x xs each) p.1 q.1)

  -- there is a second list, where an element stands for each of the first
  pub zip_exists : ((x : A) → P x → (y : B) × R x y) → (xs : List A) → All P xs
      → (ys : List B) × AllZip R xs ys
  zip_exists one [] each = ([], tt)
  zip_exists one (x ∷ xs) each =
      let (y, is) = one x (All-head P x xs each) in
      let (ys, are) = zip_exists one xs (All-tail P x xs each) in
      (y ∷ ys, (is, are))
