-- Puts of several pieces.
use Rattle.std.proofs.Common.{◌≡◌, ℕ, ◌+◌, ◌<◌, List, ◌++◌, length, get_or, take, drop}
use Rattle.std.proofs.Common.{map, sym, ◌∙◌, ap}
use Rattle.std.proofs.lemmas.List.{take-append-drop, map-append}
use Rattle.std.proofs.lemmas.List.Folds.{concat-append}
use Rattle.std.specs.List.{concat}
use Rattle.base_text.specs.PieceLaws.{one_piece_more}

module _ {X : Type 0} (f : X → List ℕ) (xs : List X) (i : ℕ) (d : X) (inside : i < length xs) where
  -- the text of all pieces, by that of the first ones and the next one
  pub pieces_split :
      concat (map f xs)
      ≡ (concat (map f (take i xs)) ++ f (get_or xs i d)) ++ concat (map f (drop (i + 1) xs))
  pieces_split =
      ap (λ z. concat (map f z)) (sym (take-append-drop (i + 1) xs))
      ∙ ap concat (map-append f (take (i + 1) xs) (drop (i + 1) xs))
      ∙ concat-append (map f (take (i + 1) xs)) (map f (drop (i + 1) xs))
      ∙ ap (λ z. z ++ concat (map f (drop (i + 1) xs)))
      (one_piece_more f xs i d inside)
