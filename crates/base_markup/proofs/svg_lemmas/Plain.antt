-- Escaped text is plain.
use Rattle.std.proofs.Common.{◌≡◌, ℕ, Bool, true, false, List, [], ◌∷◌, refl, ◌∙◌, ap, cond}
use Rattle.std.proofs.lemmas.List.Folds.{list_all-append}
use Rattle.std.specs.Prelude.{◌==◌, ◌&&◌, not, codes}
use Rattle.std.specs.List.{list_all}
use Rattle.base_markup.specs.svg.Escape.{escape, escaped, is_plain, is_printable}

-- by what is tested of the character
by_tests : (ampersand tag end quote printable : Bool) (c : ℕ)
    → is_plain c ≡ (printable && not tag && not end && not quote)
    → list_all is_plain (cond ampersand (codes "&amp;") (cond tag (codes "&lt;")
    (cond end (codes "&gt;") (cond quote (codes "&quot;")
    (cond printable (c ∷ []) (codes "?")))))) ≡ true
by_tests true tag end quote printable c is = refl
by_tests false true end quote printable c is = refl
by_tests false false true quote printable c is = refl
by_tests false false false true printable c is = refl
by_tests false false false false false c is = refl
by_tests false false false false true c is = ap (λ (b : Bool). b && true) is

escape_is_plain : (c : ℕ) → list_all is_plain (escape c) ≡ true
unfolding escape
escape_is_plain c =
    by_tests (c == 38) (c == 60) (c == 62) (c == 34) (is_printable c) c refl

pub escaped_is_plain : (words : List ℕ) → list_all is_plain (escaped words) ≡ true
escaped_is_plain [] = refl
escaped_is_plain (c ∷ words) =
    list_all-append is_plain (escape c) (escaped words)
    ∙ ap (λ (b : Bool). b && list_all is_plain (escaped words)) (escape_is_plain c)
    ∙ escaped_is_plain words
