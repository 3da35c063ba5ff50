-- Numbers are told by their text, in which there is no space.
use Rattle.std.proofs.Common.{◌≡◌, ◌<◌, ◌^◌, ℕ, true, List, [], ◌∷◌, subst, arith, decimal}
use Rattle.std.proofs.lemmas.Fmt.{decimal_injective}
use Rattle.std.specs.List.{list_all}
use Rattle.base_text.specs.{store.Number.is_digit, store.DecimalLaws.are_digits}
use Rattle.base_text.specs.lines.LineLaws.{both_true}
use Rattle.cert_split.specs.text.StretchLaws.{Unmarked}

abbrev pub IsSpace : ℕ → Type 0
IsSpace byte = byte ≡ 32

digits_unmarked : (bytes : List ℕ) → list_all is_digit bytes ≡ true → Unmarked IsSpace bytes
digits_unmarked [] all = tt
digits_unmarked (b ∷ bytes) all =
    let both = both_true (is_digit b) (list_all is_digit bytes) all in (
      λ space. (let no : is_digit 32 ≡ true = subst (λ (n : ℕ). is_digit n ≡ true) space both.0 in
          cc),
      digits_unmarked bytes both.1,
    )

-- there is no space in a number
pub no_space : (n : ℕ) → n < 2 ^ 32 → Unmarked IsSpace (decimal n)
no_space n small = digits_unmarked (decimal n) (are_digits n (omega arith)).digits

pub one_number : (n m : ℕ) → n < 2 ^ 32 → m < 2 ^ 32 → decimal n ≡ decimal m → n ≡ m
one_number n m small little same = decimal_injective n m (omega arith) (omega arith) same
