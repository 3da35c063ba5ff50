-- Laws of starts of lines, and of texts with no line feed.
use Rattle.std.specs.Prelude.{◌≡◌, ◌&&◌, ◌<◌, ◌+◌, ◌%◌, ◌^◌, ℕ, Bool, true, not, List, [], ◌∷◌}
use Rattle.std.specs.Prelude.{◌++◌, drop, decimal, get_or}
use Rattle.std.proofs.Common.{sym, ◌∙◌, ap, arith, ne_eqb}
use Rattle.std.proofs.lemmas.Fmt.{decimal_by_steps}
use Rattle.std.proofs.lemmas.List.{append_cancel_left}
use Rattle.std.proofs.lemmas.List.Folds.{list_all-append}
use Rattle.base_text.specs.{lines.Lines.is_no_feed, lines.Lines.is_one_line, lines.Named.named}

-- ---- starts

-- the same texts have the same first byte
pub first_same : (text other : List ℕ) → text ≡ other → get_or text 0 0 ≡ get_or other 0 0
first_same text other same = ap (λ (l : List ℕ). get_or l 0 0) same

-- what follows the start
pub after_word : (text word rest tail : List ℕ) → text ≡ word ++ rest → text ≡ word ++ tail
    → rest ≡ tail
after_word text word rest tail a b = append_cancel_left word rest tail (sym a ∙ b)

pub after_space : (text rest tail : List ℕ) → text ≡ 32 ∷ rest → text ≡ 32 ∷ tail → rest ≡ tail
after_space text rest tail a b = ap (drop 1) (sym a ∙ b)

-- one start has one text after it
pub one_text : (word name text other : List ℕ) → named word name text ≡ named word name other
    → text ≡ other
one_text word name text other same =
    ap (drop 1) (append_cancel_left name (32 ∷ text) (32 ∷ other)
    (ap (drop 1) (append_cancel_left word _ _ same)))

-- ---- texts with no line feed

pub whole_append : (a b : List ℕ) → is_one_line a ≡ true → is_one_line b ≡ true
    → is_one_line (a ++ b) ≡ true
whole_append a b x y =
    list_all-append is_no_feed a b ∙ ap (λ t. t && is_one_line b) x ∙ y

pub whole_more : (byte : ℕ) (rest : List ℕ) → is_no_feed byte ≡ true → is_one_line rest ≡ true
    → is_one_line (byte ∷ rest) ≡ true
whole_more byte rest x y = ap (λ t. t && is_one_line rest) x ∙ y

pub named_whole : (word name text : List ℕ) → is_one_line word ≡ true → is_one_line name ≡ true
    → is_one_line text ≡ true → is_one_line (named word name text) ≡ true
named_whole word name text w n t =
    whole_append word (32 ∷ (name ++ (32 ∷ text))) w (whole_append name (32 ∷ text) n t)

-- ---- decimals

digit_whole : (d : ℕ) → is_one_line ((48 + d) ∷ []) ≡ true
digit_whole d =
    ap (λ (b : Bool). not b && true) (ne_eqb (48 + d) 10 (λ e. omega (arith, e)))

pub decimal_whole : (n : ℕ) → n < 2 ^ 64 → is_one_line (decimal n) ≡ true
decimal_whole n small =
    decimal_by_steps (λ m digits. is_one_line digits ≡ true) (λ m below. digit_whole m)
    (λ m digits ten whole. whole_append digits ((48 + m % 10) ∷ []) whole (digit_whole (m % 10))) n
    small
