-- Laws of numbers in a row, each after one space: their text tells them, and has no line feed.
use Rattle.std.proofs.Common.{◌≡◌, ℕ, ◌+◌, ◌<◌, ◌^◌, true, cond, not, List, [], ◌∷◌, ◌++◌, length}
use Rattle.std.proofs.Common.{take, drop, refl, sym, ◌∙◌, ap, arith, decimal, Some, ne_eqb}
use Rattle.std.proofs.Common.{inl, inr}
use Rattle.std.proofs.lemmas.Bool.Decides.{leb_tells}
use Rattle.std.proofs.lemmas.List.{take_at, drop_at}
use Rattle.std.proofs.lemmas.Option.{same_Some}
use Rattle.std.proofs.lemmas.List.Elements.{All-head, All-tail}
use Rattle.std.specs.Prelude.{nat_le, ◌==◌}
use Rattle.std.specs.List.{All, list_all, position_or_len}
use Rattle.base_text.specs.store.Number.{is_digit, number_of}
use Rattle.base_text.specs.store.DecimalLaws.{are_digits, number_of-decimal}
use Rattle.base_text.specs.lines.Lines.{is_space}
use Rattle.base_text.specs.{lines.Lines.is_one_line, lines.LineLaws.both_true}
use Rattle.base_text.specs.lines.NamedLaws.{whole_append, decimal_whole}
use Rattle.base_text.specs.lines.SpacedNumbers.{spaced, numbers_text}

-- ---- digits

digit_is_not : (byte other : ℕ) → other < 48 → is_digit byte ≡ true → not (byte == other) ≡ true
digit_is_not byte other below digit =
    let least = both_true (nat_le 48 byte) (nat_le byte 57) digit in
    elim (leb_tells 48 byte) [
      | inl fits ↦ ap not (ne_eqb byte other (λ e. (let f = fits.1 in omega arith)))
      | inr small ↦ cc (small.0, least.0)
    ]

-- digits end where a space follows them, or nothing
digits_end : (digits later : List ℕ) → list_all is_digit digits ≡ true
    → position_or_len is_space later ≡ 0
    → position_or_len is_space (digits ++ later) ≡ length digits
digits_end [] later all ends = ends
digits_end (digit ∷ digits) later all ends =
    let both = both_true (is_digit digit) (list_all is_digit digits) all in
    ap (λ other. cond other (1 + position_or_len is_space (digits ++ later)) 0)
    (digit_is_not digit 32 (omega arith) both.0)
    ∙ (let more = digits_end digits later both.1 ends in omega arith)

numbers_begin : (numbers : List ℕ) → position_or_len is_space (numbers_text numbers) ≡ 0
numbers_begin [] = refl
numbers_begin (n ∷ numbers) = refl

-- ---- the first number

-- the text of a number, where numbers follow it
number_ends : (n : ℕ) (more : List ℕ) → n < 2 ^ 32
    → position_or_len is_space (decimal n ++ numbers_text more) ≡ length (decimal n)
number_ends n more small =
    digits_end (decimal n) (numbers_text more) (are_digits n (omega arith)).digits
    (numbers_begin more)

-- what stands before a space is read as it
pub reads_number : (item : List ℕ) (end n : ℕ) (more : List ℕ) → n < 2 ^ 32
    → end ≡ position_or_len is_space item → item ≡ decimal n ++ numbers_text more
    → (number_of (take end item) ≡ Some n) × (drop end item ≡ numbers_text more)
reads_number item end n more small ends is =
    let here : end ≡ length (decimal n) =
    ends ∙ ap (position_or_len is_space) is ∙ number_ends n more small in (
      ap number_of (ap (take end) is ∙ take_at (decimal n) (numbers_text more) end (sym here))
          ∙ number_of-decimal n small,
      ap (drop end) is ∙ drop_at (decimal n) (numbers_text more) end (sym here),
    )

-- numbers of one text are the same
pub numbers_tell : (numbers others : List ℕ) → All (λ n. n < 2 ^ 32) numbers
    → All (λ n. n < 2 ^ 32) others → numbers_text numbers ≡ numbers_text others
    → numbers ≡ others
numbers_tell [] [] small little same = refl
numbers_tell [] (m ∷ others) small little same = cc
numbers_tell (n ∷ numbers) [] small little same = cc
numbers_tell (n ∷ numbers) (m ∷ others) small little same =
    let P : ℕ → Type 0 = λ k. k < 2 ^ 32 in
    let item : List ℕ = decimal n ++ numbers_text numbers in
    let tails : item ≡ decimal m ++ numbers_text others = ap (drop 1) same in
    let one = reads_number item (position_or_len is_space item) n numbers
    (All-head P n numbers small) refl refl in
    let two = reads_number item (position_or_len is_space item) m others
    (All-head P m others little) refl tails in
    let first : n ≡ m = same_Some n m (sym one.0 ∙ two.0) in
    let rest : numbers ≡ others =
    numbers_tell numbers others (All-tail P n numbers small) (All-tail P m others little)
    (sym one.1 ∙ two.1) in
    cc

-- ---- no line feed

pub numbers_whole : (numbers : List ℕ) → All (λ n. n < 2 ^ 32) numbers
    → is_one_line (numbers_text numbers) ≡ true
numbers_whole [] small = refl
numbers_whole (n ∷ numbers) small =
    let P : ℕ → Type 0 = λ k. k < 2 ^ 32 in
    let here : n < 2 ^ 32 = All-head P n numbers small in
    whole_append (spaced n) (numbers_text numbers) (decimal_whole n (omega arith))
    (numbers_whole numbers (All-tail P n numbers small))
