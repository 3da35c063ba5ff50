-- What is chosen of a list's images.
use Rattle.std.proofs.Common.{◌≡◌, ◌+◌, ℕ, Bool, List, [], ◌∷◌, Option, None, Some, map, refl}
use Rattle.std.specs.List.{position_from}
use Rattle.std.specs.Str.{bytes_eq}
use Rattle.call_work.specs.load.Chosen.{place_chosen}

-- the first image that passes a test stands where the first stands whose image passes
position-map : {A B : Type 0} (f : A → B) (test : B → Bool) (i : ℕ) (xs : List A)
    → position_from test i (map f xs) ≡ position_from (λ x. test (f x)) i xs
position-map f test i [] = refl
position-map f test i (x ∷ xs) = rw (position-map f test (i + 1) xs) refl

-- it stands where that stands whose image it is
pub chosen-map : {A B : Type 0} (f : A → B) (name_of : B → List ℕ) (xs : List A)
    (name : Option (List ℕ))
    → place_chosen name_of (map f xs) name ≡ place_chosen (λ x. name_of (f x)) xs name
chosen-map f name_of [] None = refl
chosen-map f name_of (x ∷ xs) None = refl
chosen-map f name_of xs (Some name) = position-map f (λ b. bytes_eq (name_of b) name) 0 xs
