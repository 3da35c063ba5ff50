-- Lists whose elements are seen one by one.
use Rattle.std.proofs.Common.{◌≡◌, ℕ, ◌+◌, ◌<◌, List, [], ◌∷◌, ◌++◌, length, map, take, get_or}
use Rattle.std.proofs.Common.{sym, ◌∙◌, ap}
use Rattle.std.proofs.lemmas.List.{map-append, take_more}

-- what is seen of a list, element by element, is what is seen of another
pub one_mapped_more : {A B C : Type 0} (f : A → C) (g : B → C) (done : List A) (xs : List B) (i : ℕ)
    (y : A) (x : B) → i < length xs → x ≡ get_or xs i x → map f done ≡ map g (take i xs)
    → f y ≡ g x → map f (done ++ y ∷ []) ≡ map g (take (i + 1) xs)
one_mapped_more {A} {B} {C} f g done xs i y x inside is before now =
    map-append f done (y ∷ [])
    ∙ ap (λ (l : List C). l ++ f y ∷ []) before
    ∙ ap (λ (c : C). map g (take i xs) ++ c ∷ []) (now ∙ ap g is)
    ∙ sym (map-append g (take i xs) (get_or xs i x ∷ []))
    ∙ ap (λ (l : List B). map g l) (sym (take_more xs i x inside))
