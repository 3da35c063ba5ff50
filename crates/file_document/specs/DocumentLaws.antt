-- Documents, and tests of texts that something has.
use Rattle.std.proofs.Common.{◌≡◌, ℕ, Bool, false, List, [], ◌∷◌, map, Option, None, refl}
use Rattle.std.proofs.Common.{◌||◌, ap}
use Rattle.std.proofs.lemmas.Bool.{false_from_ne_true}
use Rattle.std.proofs.lemmas.Str.{IsUtf8-from_is_utf8, is_utf8-from_IsUtf8}
use Rattle.std.specs.Str.{IsUtf8, is_utf8}
use Rattle.std.specs.List.{list_any}
use Rattle.toml.specs.{Data.Members, Parse.parse_document}
use Rattle.file_document.specs.Keys.{document_of}

-- bytes that are a text stand for what the text stands for
pub document_read :
    (bytes text : List ℕ) (doc : Option Members) → text ≡ bytes → IsUtf8 bytes
    → parse_document text ≡ doc → document_of bytes ≡ doc
document_read bytes text doc same utf8 read = rw (is_utf8-from_IsUtf8 bytes utf8, ← same) read

-- other bytes stand for no document
pub document_none : (bytes : List ℕ) → (IsUtf8 bytes → ⊥) → document_of bytes ≡ None
document_none bytes not_text =
    let e : is_utf8 bytes ≡ false =
    false_from_ne_true (is_utf8 bytes) (λ h. not_text (IsUtf8-from_is_utf8 bytes h)) in
    rw e refl

-- a test of some text, through what has the texts
pub any_map :
    {X : Type 0} (text : X → List ℕ) (f : List ℕ → Bool) (xs : List X)
    → list_any (λ x. f (text x)) xs ≡ list_any f (map text xs)
any_map text f [] = refl
any_map text f (x ∷ xs) = ap (λ b. f (text x) || b) (any_map text f xs)
