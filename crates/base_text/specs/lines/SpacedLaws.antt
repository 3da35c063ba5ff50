-- A law of numbers in a row, each after one space.
use Rattle.std.proofs.Common.{◌≡◌, ℕ, ◌+◌, ◌<◌, List, [], ◌∷◌, ◌++◌, length, take, get_or, ◌∙◌, ap}
use Rattle.std.proofs.lemmas.List.Concat.{flat_map-append}
use Rattle.std.proofs.lemmas.List.{append-nil, take_more}
use Rattle.base_text.specs.lines.SpacedNumbers.{numbers_text, spaced}

-- the text of one number more
pub one_number_more : (numbers : List ℕ) (i d : ℕ) → i < length numbers
    → numbers_text (take (i + 1) numbers)
    ≡ numbers_text (take i numbers) ++ spaced (get_or numbers i d)
one_number_more numbers i d inside =
    ap numbers_text (take_more numbers i d inside)
    ∙ flat_map-append spaced (take i numbers) (get_or numbers i d ∷ [])
    ∙ ap (λ (l : List ℕ). numbers_text (take i numbers) ++ l)
    (append-nil (spaced (get_or numbers i d)))
