-- Text holds neither `<`, nor `>`, nor `"`.
use Rattle.std.proofs.Common.{◌≡◌, ◌+◌, ◌/◌, ◌%◌, ◌≤◌, ℕ, Bool, true, false, List, [], ◌∷◌, refl, ◌∙◌, ap, cond, arith}
use Rattle.std.proofs.lemmas.Bool.{and_from, and_parts, false≢true}
use Rattle.std.proofs.lemmas.Bool.Decides.{nat_tests}
use Rattle.std.proofs.lemmas.List.Folds.{list_all-append}
use Rattle.std.specs.Prelude.{◌==◌, ◌&&◌, not, codes, chars, nat_lt}
use Rattle.std.specs.Char.{encode_utf8}
use Rattle.std.specs.List.{flat_map, list_all}
use Rattle.std.specs.Str.{is_utf8}
use Rattle.base_markup.specs.svg.Escape.{escaped, is_plain, is_printable}
use Rattle.base_markup.specs.html.Words.{character_text, is_text, is_unmarked, plain_text, words_text}

high : (k n : ℕ) → 63 ≤ k → is_unmarked (k + n) ≡ true
high k n above = grind (arith, nat_tests)

-- the bytes of a character by how many they are
by_size : (one two three : Bool) (c p q r s t u : ℕ) → is_unmarked c ≡ true
    → list_all is_unmarked (cond one (c ∷ []) (cond two ((192 + p) ∷ (128 + q) ∷ [])
    (cond three ((224 + r) ∷ (128 + s) ∷ (128 + q) ∷ [])
    ((240 + t) ∷ (128 + u) ∷ (128 + s) ∷ (128 + q) ∷ [])))) ≡ true
by_size true two three c p q r s t u is = ap (λ (b : Bool). b && true) is
by_size false true three c p q r s t u is =
    and_from _ _ (high 192 p (omega arith)) (and_from _ _ (high 128 q (omega arith)) refl)
by_size false false true c p q r s t u is =
    and_from _ _ (high 224 r (omega arith))
    (and_from _ _ (high 128 s (omega arith)) (and_from _ _ (high 128 q (omega arith)) refl))
by_size false false false c p q r s t u is =
    and_from _ _ (high 240 t (omega arith)) (and_from _ _ (high 128 u (omega arith))
    (and_from _ _ (high 128 s (omega arith)) (and_from _ _ (high 128 q (omega arith)) refl)))

encode_is_unmarked : (c : ℕ) → is_unmarked c ≡ true → list_all is_unmarked (encode_utf8 c) ≡ true
unfolding encode_utf8
encode_is_unmarked c is =
    by_size (nat_lt c 128) (nat_lt c 2048) (nat_lt c 65536) c (c / 64) (c % 64) (c / 4096)
    (c / 64 % 64) (c / 262144) (c / 4096 % 64) is

-- by what is tested of the character
by_tests : (ampersand tag end quote text : Bool) (c : ℕ)
    → is_unmarked c ≡ (not tag && not end && not quote)
    → list_all is_unmarked (cond ampersand (codes "&amp;") (cond tag (codes "&lt;")
    (cond end (codes "&gt;") (cond quote (codes "&quot;")
    (cond text (encode_utf8 c) (codes "?")))))) ≡ true
by_tests true tag end quote text c is = refl
by_tests false true end quote text c is = refl
by_tests false false true quote text c is = refl
by_tests false false false true text c is = refl
by_tests false false false false false c is = refl
by_tests false false false false true c is = encode_is_unmarked c is

character_is_unmarked : (c : ℕ) → list_all is_unmarked (character_text c) ≡ true
unfolding character_text plain_text
character_is_unmarked c = by_tests (c == 38) (c == 60) (c == 62) (c == 34) (is_text c) c refl

characters_are_unmarked : (cs : List ℕ) → list_all is_unmarked (flat_map character_text cs) ≡ true
characters_are_unmarked [] = refl
characters_are_unmarked (c ∷ cs) =
    list_all-append is_unmarked (character_text c) (flat_map character_text cs)
    ∙ ap (λ (b : Bool). b && list_all is_unmarked (flat_map character_text cs))
    (character_is_unmarked c)
    ∙ characters_are_unmarked cs

-- what is plain is unmarked
one_less : (printable tag end quote : Bool) → (printable && tag && end && quote) ≡ true
    → (tag && end && quote) ≡ true
one_less true tag end quote is = is
one_less false tag end quote is = absurd (false≢true is)

plain_is_unmarked : (bytes : List ℕ) → list_all is_plain bytes ≡ true
    → list_all is_unmarked bytes ≡ true
plain_is_unmarked [] is = refl
plain_is_unmarked (b ∷ bytes) is =
    let parts = and_parts (is_plain b) (list_all is_plain bytes) is in
    and_from (is_unmarked b) (list_all is_unmarked bytes)
    (one_less (is_printable b) (not (b == 60)) (not (b == 62)) (not (b == 34)) parts.0)
    (plain_is_unmarked bytes parts.1)

by_form : (b : Bool) (first second : List ℕ) → list_all is_unmarked first ≡ true
    → list_all is_unmarked second ≡ true → list_all is_unmarked (cond b first second) ≡ true
by_form true first second of_first of_second = of_first
by_form false first second of_first of_second = of_second

pub words_are_unmarked : ((words : List ℕ) → list_all is_plain (escaped words) ≡ true)
    → (words : List ℕ) → list_all is_unmarked (words_text words) ≡ true
unfolding words_text
words_are_unmarked plain words =
    by_form (is_utf8 words) (flat_map character_text (chars words)) (escaped words)
    (characters_are_unmarked (chars words)) (plain_is_unmarked (escaped words) (plain words))
