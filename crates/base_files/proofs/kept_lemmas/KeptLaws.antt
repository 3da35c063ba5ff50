-- What a reader gave and has left, as it is read on, and pieces that are copied of it.
use Rattle.std.proofs.Common.{◌≡◌, ℕ, ◌+◌, ◌-◌, ◌<◌, ◌≤◌, min, List, ◌++◌, length, take, drop, sym}
use Rattle.std.proofs.Common.{◌∙◌, ap, arith, IfSome, Option, None, Some, inl, inr, append_assoc, length-append, length-drop, length-take}
use Rattle.std.proofs.Math.Seq.{take-append-add, take-append_seam}
use Rattle.std.proofs.lemmas.List.{append-nil, take_at, drop-append-le, drop-drop, take-append-drop, take-append-le, take-take, take_all}
use Rattle.std.specs.Io.KnownBytes.{Consumes, Keeps, prepend_known}
use Rattle.base_files.specs.Kept.{HasReached}
use Rattle.base_text.specs.store.Store.{IsPiece}

-- the front of a piece, copied from the bytes, as many as fit
pub piece_copied : (bytes : List ℕ) (from count : ℕ) (front into : List ℕ)
    → front ≡ take count (drop from bytes) → length front ≡ count
    → count ≡ min (length bytes - from) (length into) → from < length bytes
    → IsPiece bytes from (front ++ drop count into) count
piece_copied bytes from count front into copied fits least inside = record {
  taken = rw (take_at front (drop count into) count fits)
      (sym (take-append-drop count (drop from bytes))
      ∙ ap (λ x. x ++ drop count (drop from bytes)) (sym copied)
      ∙ ap (λ x. front ++ x) (drop-drop count from bytes));
  ended = λ none some.
      let whole = length-append front (drop count into) in
      let room = length-drop count into in
      omega arith;
}

-- what was left and is read stands behind what was there
pub read_behind : (kept more : List ℕ) (old new : Option (List ℕ)) → Consumes old new more
    → Keeps (prepend_known kept old) (prepend_known (kept ++ more) new)
read_behind kept more None new consumed = tt
read_behind kept more (Some old) None consumed = absurd consumed
read_behind kept more (Some old) (Some new) consumed =
    append_assoc kept more new ∙ ap (λ x. kept ++ x) (sym consumed)

-- where nothing is read, all stays
pub none_read : (kept : List ℕ) (old new : Option (List ℕ)) → Keeps old new
    → Keeps (prepend_known kept old) (prepend_known kept new)
none_read kept None new keeps = tt
none_read kept (Some old) None keeps = absurd keeps
none_read kept (Some old) (Some new) keeps = ap (λ x. kept ++ x) keeps

-- a piece of the bytes is one of the bytes with more behind them, where one of these is asked for
pub piece_before : (kept left piece : List ℕ) (from count : ℕ) → from + 1 ≤ length kept
    → count ≤ length piece → IsPiece kept from piece count → IsPiece (kept ++ left) from piece count
piece_before kept left piece from count past within is =
    let rest = length-drop from kept in
    let behind = length-drop (from + count) kept in
    let front = length-take count piece in
    let both = length-append (take count piece) (drop (from + count) kept) in
    let same = ap (λ x. length x) is.taken in
    let inside : from + count ≤ length kept = omega arith in
    record {
      taken = drop-append-le from kept left (omega arith)
          ∙ ap (λ x. x ++ left) is.taken
          ∙ append_assoc (take count piece) (drop (from + count) kept) left
          ∙ ap (λ x. take count piece ++ x) (sym (drop-append-le (from + count) kept left inside));
      ended = λ none some. let ended = is.ended none some in absurd (omega arith);
    }

-- a piece of what is there is one of the whole, where enough is there or none is left
pub piece_of_whole : (kept piece : List ℕ) (from count : ℕ) (left : Option (List ℕ))
    (whole : Option (List ℕ)) → Keeps whole (prepend_known kept left)
    → HasReached (from + 1) (record { kept = kept; left = left })
    → count ≤ length piece → IsPiece kept from piece count
    → IfSome whole (λ bytes. IsPiece bytes from piece count)
piece_of_whole kept piece from count left None keeps reached within is = tt
piece_of_whole kept piece from count None (Some whole) keeps reached within is = absurd keeps
piece_of_whole kept piece from count (Some left) (Some whole) keeps reached within is =
    rw (← keeps) (elim reached [
      | inl past ↦ piece_before kept left piece from count past within is
      | inr ends ↦ rw (ends, append-nil kept) is
    ])

-- what stands in front, once more is read behind it into room that is let go of then
pub read_in : (kept count size : ℕ) (items more rest : List ℕ) → length (take kept items) ≡ kept
    → kept + count ≤ size → count ≤ length more
    → take (kept + count) (take size ((take kept items ++ more) ++ rest)) ≡ take kept items ++ take count more
read_in kept count size items more rest front fits within =
    let both = length-append (take kept items) more in
    let on : kept + count ≡ length (take kept items) + count = omega arith in
    take-take (kept + count) size ((take kept items ++ more) ++ rest) fits
    ∙ take-append-le (kept + count) (take kept items ++ more) rest (omega arith)
    ∙ ap (λ n. take n (take kept items ++ more)) on
    ∙ take-append-add (take kept items) more count

-- what stands in front, once there is room behind it
pub front_kept : (old items room : List ℕ) (kept size : ℕ) → kept ≡ length old → kept ≤ size
    → items ≡ take size old ++ room → take kept items ≡ old
front_kept old items room kept size is fits grown =
    let all : length old ≤ size = omega arith in
    rw (grown, take_all size old all, is) (take-append_seam old room)

-- the same, of what a read gave into the room and what stands behind that
pub items_read : (old room given post rest items : List ℕ) (kept count size : ℕ)
    → take kept room ≡ old → kept ≡ length old → kept + count ≤ size → count ≤ length given
    → items ≡ take (kept + count) (take size ((take kept room ++ (given ++ post)) ++ rest))
    → items ≡ old ++ take count given
items_read old room given post rest items kept count size front is fits within are =
    let more = length-append given post in
    are
    ∙ read_in kept count size room (given ++ post) rest (ap (λ x. length x) front ∙ sym is) fits (omega arith)
    ∙ ap (λ x. x ++ take count (given ++ post)) front
    ∙ ap (λ x. old ++ x) (take-append-le count given post within)
