-- Numbers in a row, each after one space, number by number.
use Rattle.std.proofs.Common.{◌≡◌, ℕ, ◌+◌, ◌<◌, ◌^◌, List, ◌∷◌, ◌++◌, length, drop}
use Rattle.std.proofs.Common.{get_or, refl, sym, ◌∙◌, ap, decimal}
use Rattle.std.proofs.lemmas.List.{drop_more}
use Rattle.std.proofs.lemmas.List.Elements.{All-get_or}
use Rattle.std.specs.List.{All}
use Rattle.base_text.specs.lines.SpacedNumbers.{numbers_text}
use Rattle.cert_claims.specs.text.Numbers.{BeginsNumber}

-- the text after the space
pub item_of : (text item : List ℕ) (n : ℕ) (later : List ℕ) → text ≡ 32 ∷ item
    → (b : BeginsNumber text n later) → item ≡ decimal n ++ numbers_text b.more
item_of text item n later here b =
    ap (drop 1) (sym here ∙ b.is) ∙ ap (λ (l : List ℕ). decimal n ++ l) b.later_is

-- the text of numbers begins with the next
pub next_number : (numbers : List ℕ) (i d : ℕ) (rest : List ℕ) → All (λ n. n < 2 ^ 32) numbers
    → i < length numbers → rest ≡ numbers_text (drop i numbers)
    → BeginsNumber rest (get_or numbers i d) (numbers_text (drop (i + 1) numbers))
next_number numbers i d rest small inside is = record {
  small = All-get_or (λ n. n < 2 ^ 32) numbers i d inside small;
  more = drop (i + 1) numbers;
  later_is = refl;
  is = is ∙ ap numbers_text (drop_more numbers i d inside);
}
