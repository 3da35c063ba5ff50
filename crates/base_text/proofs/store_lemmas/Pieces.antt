-- A piece that was copied.
use Rattle.std.proofs.Common.{◌≡◌, ℕ, ◌<◌, ◌≤◌, ◌-◌, min, List, ◌++◌, length, take, drop, refl, sym}
use Rattle.std.proofs.Common.{◌∙◌, ap, arith, Option, None, Some, length-append, length-drop}
use Rattle.std.proofs.lemmas.List.{take_at, drop-drop, take-append-drop}
use Rattle.std.specs.Option.{ForSome}
use Rattle.base_text.specs.{store.Bound.at_most, store.Store.IsPiece}

-- an amount that is cut to a bound is not raised
pub at_most-le : (bound : Option ℕ) (amount : ℕ) → at_most bound amount ≤ amount
at_most-le None amount = omega arith
at_most-le (Some most) amount = omega arith

-- an amount that is cut to a bound of at least 1 is 0 only where it was 0 before
pub at_most-zero : (bound : Option ℕ) (amount : ℕ) → ForSome bound (λ most. 1 ≤ most)
    → at_most bound amount ≡ 0 → amount ≡ 0
at_most-zero None amount positive none = none
at_most-zero (Some most) amount positive none = let one = positive most refl in omega arith

-- the lesser of two amounts is within the first, and 0 only where one of them is
pub least-le : (a b least : ℕ) → least ≡ min a b → least ≤ a
least-le a b least is = omega arith

pub min_some : (a b least : ℕ) → least ≡ min a b → 0 < a → (b ≡ 0 → ⊥) → least ≡ 0 → ⊥
min_some a b least is some other none = omega arith

-- the front of a piece, copied from the bytes, as many as fit and the bound allows
pub piece_copied : (bytes : List ℕ) (from count : ℕ) (bound : Option ℕ) (front into : List ℕ)
    → ForSome bound (λ most. 1 ≤ most) → front ≡ take count (drop from bytes) → length front ≡ count
    → count ≡ at_most bound (min (length bytes - from) (length into)) → from < length bytes
    → IsPiece bytes from (front ++ drop count into) count
piece_copied bytes from count bound front into positive copied fits least inside = record {
  taken = rw (take_at front (drop count into) count fits)
      (sym (take-append-drop count (drop from bytes))
      ∙ ap (λ x. x ++ drop count (drop from bytes)) (sym copied)
      ∙ ap (λ x. front ++ x) (drop-drop count from bytes));
  ended = λ none some.
      let available = min (length bytes - from) (length into) in
      let zero = at_most-zero bound available positive (sym least ∙ none) in
      let whole = length-append front (drop count into) in
      let room = length-drop count into in
      omega arith;
}
