-- Names among those that are known.
use Rattle.std.proofs.Common.{◌≡◌, ◌||◌, ◌∙◌, ◌++◌, ℕ, Bool, List, map, ap, sym}
use Rattle.std.proofs.lemmas.List.Folds.{list_any-append}
use Rattle.std.specs.List.{list_any}
use Rattle.file_document.specs.DocumentLaws.{any_map}

-- a test of some text of one list, or of another
pub any_front : {X : Type 0} (text : X → List ℕ) (f : List ℕ → Bool) (xs : List X)
    (rest : List (List ℕ)) (a b : Bool) → a ≡ list_any (λ x. f (text x)) xs → b ≡ list_any f rest
    → a || b ≡ list_any f (map text xs ++ rest)
any_front text f xs rest a b first second =
    ap (λ c. c || b) (first ∙ any_map text f xs)
    ∙ ap (λ c. list_any f (map text xs) || c) second
    ∙ sym (list_any-append f (map text xs) rest)
