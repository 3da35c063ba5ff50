-- Laws of sinks: one write after another.
use Rattle.std.proofs.Common.{◌≡◌, ℕ, suc, ◌+◌, ◌≤◌, List, [], ◌∷◌, ◌++◌, length, take, refl, ◌∙◌}
use Rattle.std.proofs.Common.{ap, Option, None, Some, append_assoc, arith, length-append}
use Rattle.std.proofs.lemmas.List.{take-append-le, take_at}
use Rattle.std.specs.Io.KnownBytes.{Appends}
use Rattle.base_text.specs.store.Sink.{GrewByProper, GrewByPart}

-- a front that goes on past the first text
pub take_past : (a b : List ℕ) (n : ℕ) → take (length a + n) (a ++ b) ≡ a ++ take n b
take_past [] b n = grind arith
take_past (x ∷ a) b n =
    let next : suc (length a) + n ≡ suc (length a + n) = omega arith in
    rw next (ap (λ z. x ∷ z) (take_past a b n))

-- the known bytes grow by one text and then by another
pub appends_both : (a b c : Option (List ℕ)) (x y : List ℕ)
    → Appends a b x → Appends b c y → Appends a c (x ++ y)
appends_both None b c x y p q = tt
appends_both (Some a) None c x y p q = absurd p
appends_both (Some a) (Some b) None x y p q = q
appends_both (Some a) (Some b) (Some c) x y p q = q ∙ ap (λ z. z ++ y) p ∙ append_assoc a x y

-- a proper front of a text is one of the text with more behind it
pub proper_more : (old new : Option (List ℕ)) (a b : List ℕ)
    → GrewByProper old new a → GrewByProper old new (a ++ b)
proper_more old new a b p =
    let whole = length-append a b in
    let short = p.short in
    let within : p.count ≤ length a = omega arith in
    record {
      count = p.count;
      short = omega arith;
      taken = rw (take-append-le p.count a b) p.taken;
    }

-- after a text, a proper front of the next one
pub proper_later : (old mid new : Option (List ℕ)) (a b : List ℕ)
    → Appends old mid a → GrewByProper mid new b → GrewByProper old new (a ++ b)
proper_later old mid new a b p q =
    let whole = length-append a b in
    let short = q.short in
    record {
      count = length a + q.count;
      short = omega arith;
      taken = rw (take_past a b q.count) (appends_both old mid new a (take q.count b) p q.taken);
    }

-- a proper front is a front
pub part_of_proper : (old new : Option (List ℕ)) (a : List ℕ)
    → GrewByProper old new a → GrewByPart old new a
part_of_proper old new a p =
    let short = p.short in
    record { count = p.count; short = omega arith; taken = p.taken }

-- so is all of what stands before more
pub part_before : (old new : Option (List ℕ)) (a b : List ℕ)
    → Appends old new a → GrewByPart old new (a ++ b)
part_before old new a b p =
    let whole = length-append a b in
    record {
      count = length a;
      short = omega arith;
      taken = rw (take_at a b (length a) refl) p;
    }
