-- Plain names are texts.
use Rattle.std.proofs.Common.{◌≡◌, ◌<◌, ℕ, zero, suc, Bool, true, List, [], ◌∷◌, length, get_or}
use Rattle.std.proofs.Common.{arith}
use Rattle.std.proofs.lemmas.Bool.{and_parts}
use Rattle.std.proofs.lemmas.Bool.Decides.{nat_tests}
use Rattle.std.proofs.lemmas.Str.{IsUtf8-from_ascii}
use Rattle.std.specs.Str.{IsAscii, IsUtf8}
use Rattle.std.specs.List.{list_all}
use Rattle.std.specs.Prelude.{nat_le}
use Rattle.model_line.specs.PlainNames.{is_plain_byte, is_plain_name}

byte_below : (b : ℕ) → is_plain_byte b ≡ true → b < 128
byte_below b h = grind (arith, nat_tests)

plain_ascii : (bs : List ℕ) → list_all is_plain_byte bs ≡ true → IsAscii bs
plain_ascii [] h i = omega arith
plain_ascii (b ∷ bs) h zero = byte_below b (and_parts (is_plain_byte b) _ h).0
plain_ascii (b ∷ bs) h (suc i) = plain_ascii bs (and_parts (is_plain_byte b) _ h).1 i

-- a plain name is a text
pub plain_text : (name : List ℕ) → is_plain_name name ≡ true → IsUtf8 name
plain_text name h =
    let (some, more) = and_parts (nat_le 1 (length name)) _ h in
    let (few, bytes) = and_parts (nat_le (length name) 16) _ more in
    IsUtf8-from_ascii name (plain_ascii name bytes)

-- each element passes a test that all pass
pub passes :
    {X : Type 0} (p : X → Bool) (xs : List X) (i : ℕ) (d : X) → i < length xs
    → list_all p xs ≡ true → p (get_or xs i d) ≡ true
passes p [] i d lt all = absurd (omega arith)
passes p (x ∷ xs) zero d lt all = (and_parts (p x) _ all).0
passes p (x ∷ xs) (suc i) d lt all = passes p xs i d (omega arith) (and_parts (p x) _ all).1
