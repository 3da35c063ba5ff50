-- Laws of decimal texts: a number is read back from its own, which has digits alone.
use Rattle.std.proofs.Common.{◌≡◌, ◌≢◌, ◌&&◌, ℕ, ◌+◌, ◌-◌, ◌/◌, ◌%◌, ◌^◌, ◌<◌, ◌≤◌, true, cond}
use Rattle.std.proofs.Common.{List, [], ◌∷◌, ◌++◌, length, get_or, Some, None, fold, refl, ap, ◌∙◌}
use Rattle.std.proofs.Common.{arith, ne_eqb, inl, inr}
use Rattle.std.proofs.lemmas.Bool.{le-leb, cases_eq}
use Rattle.std.proofs.lemmas.Fmt.{decimal_by_steps, decimal_digit, decimal_nonempty, first_decimal}
use Rattle.std.proofs.lemmas.List.Folds.{list_all-append}
use Rattle.std.proofs.lemmas.List.Sums.{fold_push}
use Rattle.std.specs.Prelude.{nat_le}
use Rattle.std.specs.List.{list_all}
use Rattle.std.specs.Fmt.{decimal}
use Rattle.base_text.specs.store.Number.{is_digit, with_digit, digits_value, number_of}

-- the digits of a number
pub record AreDigits (n : ℕ) (ds : List ℕ) : Type 0 where
  pub digits : list_all is_digit ds ≡ true
  pub value : fold with_digit 0 ds ≡ n

digit : (d : ℕ) → d < 10 → is_digit (48 + d) ≡ true
digit d below =
    ap (λ b. b && nat_le (48 + d) 57) (le-leb 48 (48 + d) (omega arith))
    ∙ le-leb (48 + d) 57 (omega arith)

one_digit : (n : ℕ) → n < 10 → AreDigits n ((48 + n) ∷ [])
one_digit n below = record {
  digits = ap (λ b. b && true) (digit n below);
  value = omega arith;
}

one_digit_more : (n : ℕ) (ds : List ℕ) → 10 ≤ n → AreDigits (n / 10) ds
    → AreDigits n (ds ++ ((48 + n % 10) ∷ []))
one_digit_more n ds ten p = record {
  digits = list_all-append is_digit ds ((48 + n % 10) ∷ [])
      ∙ ap (λ b. b && (is_digit (48 + n % 10) && true)) p.digits
      ∙ ap (λ b. b && true) (digit (n % 10) (omega arith));
  value =
      (let last = fold_push with_digit 0 ds (48 + n % 10) in
      let front = p.value in
      omega arith);
}

pub are_digits : (n : ℕ) → n < 2 ^ 64 → AreDigits n (decimal n)
are_digits n small = decimal_by_steps AreDigits one_digit one_digit_more n small

digits_are : (n : ℕ) (ds : List ℕ) → AreDigits n ds → n < 2 ^ 32 → digits_value ds ≡ Some n
digits_are n ds p small =
    let fits : nat_le n (2 ^ 32 - 1) ≡ true = le-leb n (2 ^ 32 - 1) (omega arith) in
    rw (p.digits, p.value, fits) refl

number_is : (n : ℕ) (ds : List ℕ) → AreDigits n ds → n < 2 ^ 32 → 0 < length ds
    → (0 < n → 48 < get_or ds 0 0) → (n ≡ 0 → length ds ≡ 1) → number_of ds ≡ Some n
number_is n [] p small some first zero_alone = absurd (omega arith)
number_is n (b ∷ []) p small some first zero_alone = digits_are n (b ∷ []) p small
number_is n (b ∷ c ∷ rest) p small some first zero_alone =
    let apart : b ≢ 48 =
    elim (cases_eq n 0) [
      | inl zero ↦ λ e. (let z = zero_alone zero in absurd (omega arith))
      | inr more ↦ λ e.
          (let m : 0 < n = (let o = more in omega arith) in let f = first m in omega arith)
    ] in
    ap (λ t. cond t None (digits_value (b ∷ c ∷ rest))) (ne_eqb b 48 apart)
    ∙ digits_are n (b ∷ c ∷ rest) p small

-- the number of a decimal text
pub number_of-decimal : (n : ℕ) → n < 2 ^ 32 → number_of (decimal n) ≡ Some n
number_of-decimal n small =
    let wide : n < 2 ^ 64 = omega arith in
    number_is n (decimal n) (are_digits n wide) small (decimal_nonempty n wide)
    (λ more. first_decimal n more wide)
    (λ zero. ap (λ k. length (decimal k)) zero ∙ ap length (decimal_digit 0 (omega arith)))
