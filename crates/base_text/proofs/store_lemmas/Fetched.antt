-- Bytes that were fetched piece by piece.
use Rattle.std.proofs.Common.{◌≡◌, ℕ, ◌+◌, ◌≤◌, ◌<◌, ◌-◌, List, ◌++◌, length, take, drop, Option, None}
use Rattle.std.proofs.Common.{Some, ◌∙◌, ap, sym, refl, [], arith, append_assoc, length-append, length-take}
use Rattle.std.proofs.lemmas.List.{append-nil, drop_all}
use Rattle.std.specs.Prelude.{IfSome}
use Rattle.base_text.specs.store.Store.{IsPiece}

-- before the first piece
pub none_fetched : (held : Option (List ℕ))
    → IfSome held (λ bytes. bytes ≡ [] ++ drop (length {A = ℕ} []) bytes)
none_fetched None = tt
none_fetched (Some bytes) = refl

-- how long they are with one piece more
pub long_with_piece : (front piece new : List ℕ) (count : ℕ) → count ≤ length piece
    → new ≡ front ++ take count piece → length new ≡ length front + count
long_with_piece front piece new count fits more =
    let e = ap length more in
    omega (arith, length-append front (take count piece), length-take count piece)

-- with one piece more they are a longer front of what is held
pub front_with_piece : (held : Option (List ℕ)) (front piece new : List ℕ) (count : ℕ)
    → IfSome held (λ bytes. bytes ≡ front ++ drop (length front) bytes)
    → IfSome held (λ bytes. IsPiece bytes (length front) piece count)
    → count ≤ length piece → new ≡ front ++ take count piece
    → IfSome held (λ bytes. bytes ≡ new ++ drop (length new) bytes)
front_with_piece None front piece new count before is fits more = before
front_with_piece (Some bytes) front piece new count before is fits more =
    before
    ∙ ap (λ x. front ++ x) is.taken
    ∙ sym (append_assoc front (take count piece) (drop (length front + count) bytes))
    ∙ ap (λ x. x ++ drop (length front + count) bytes) (sym more)
    ∙ ap (λ n. new ++ drop n bytes) (sym (long_with_piece front piece new count fits more))

-- where a piece with room got none, they are all that is held
pub whole_at_end : (held : Option (List ℕ)) (front piece : List ℕ) (count : ℕ)
    → IfSome held (λ bytes. bytes ≡ front ++ drop (length front) bytes)
    → IfSome held (λ bytes. IsPiece bytes (length front) piece count)
    → count ≡ 0 → 0 < length piece → IfSome held (λ bytes. bytes ≡ front)
whole_at_end None front piece count before is none room = before
whole_at_end (Some bytes) front piece count before is none room =
    before
    ∙ ap (λ x. front ++ x) (drop_all (length front) bytes (is.ended none room))
    ∙ append-nil front

-- where they and the piece go past a limit, so does what is held
pub held_past_limit : (held : Option (List ℕ)) (front piece : List ℕ) (count limit : ℕ)
    → IfSome held (λ bytes. bytes ≡ front ++ drop (length front) bytes)
    → IfSome held (λ bytes. IsPiece bytes (length front) piece count)
    → count ≤ length piece → limit < length front + count
    → IfSome held (λ bytes. limit < length bytes)
held_past_limit None front piece count limit before is fits past = before
held_past_limit (Some bytes) front piece count limit before is fits past =
    let whole = ap length before in
    let rest = ap length is.taken in
    omega (
      arith,
      length-append front (drop (length front) bytes),
      length-take count piece,
      length-append (take count piece) (drop (length front + count) bytes),
    )

-- with the piece they go past a limit
pub past_limit : (limit size len count : ℕ) → len ≡ size → limit - len < count
    → limit < size + count
past_limit limit size len count is more = omega arith

-- or not
pub within_limit : (limit size len count new : ℕ) → len ≡ size → size ≤ limit
    → count ≤ limit - len → new ≡ size + count → new ≤ limit
within_limit limit size len count new is within fits long = omega arith

-- each turn brings a byte
pub turn_more : (turn size count new : ℕ) → turn ≤ size → (count ≡ 0 → ⊥) → new ≡ size + count
    → turn + 1 ≤ new
turn_more turn size count new before some long = omega arith
