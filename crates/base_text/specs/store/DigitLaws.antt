-- Digits that are read one by one, up to the first that is none or makes the number too large, come
-- to what they come to as a whole.
use Rattle.std.proofs.Common.{◌≡◌, ℕ, ◌≤◌, ◌<◌, Bool, true, false, ◌&&◌, List, [], ◌∷◌, Option}
use Rattle.std.proofs.Common.{Some, None, if◌then◌else◌, nat_le, refl, sym, arith, inl, inr}
use Rattle.std.proofs.lemmas.Bool.{le-leb}
use Rattle.std.proofs.lemmas.Bool.Decides.{leb_tells}
use Rattle.std.specs.List.{fold, list_all}
use Rattle.base_text.specs.store.Number.{is_digit, with_digit}

-- a digit is one of `0` to `9`
pub digit_is : (d : ℕ) → is_digit d ≡ true → (48 ≤ d) × (d ≤ 57)
digit_is d is = grind (arith, leb_tells)

-- the number that the digits go on to, from that of the digits before them, up to a limit
abbrev pub digits_from : ℕ → ℕ → List ℕ → Option ℕ
digits_from limit value [] = Some value
digits_from limit value (byte ∷ bytes) =
    if is_digit byte && nat_le (with_digit value byte) limit
    then digits_from limit (with_digit value byte) bytes else None

-- more digits make no number smaller
fold-le : (value : ℕ) (bytes : List ℕ) → value ≤ fold with_digit value bytes
fold-le value [] = omega arith
fold-le value (byte ∷ bytes) =
    let rest = fold-le (with_digit value byte) bytes in
    omega arith

-- a number that is too large
too_large : (limit value : ℕ) → limit < value → nat_le value limit ≡ false
too_large limit value large = grind (arith, leb_tells)

-- what the digits come to, judged as a whole
abbrev pub whole_from : ℕ → ℕ → List ℕ → Option ℕ
whole_from limit value bytes =
    if list_all is_digit bytes && nat_le (fold with_digit value bytes) limit
    then Some (fold with_digit value bytes) else None

-- nothing comes of two tests of which the last fails
none_after : {A : Type 0} (first last : Bool) (x : A) → last ≡ false
    → (if first && last then Some x else None) ≡ None
none_after true last x none = rw none
none_after false last x none = refl

-- a number that is too large stays so with more digits
whole_from-step : (limit value : ℕ) (bytes : List ℕ)
    → (value ≤ limit → digits_from limit value bytes ≡ whole_from limit value bytes)
    → (if nat_le value limit then digits_from limit value bytes else None)
    ≡ whole_from limit value bytes
whole_from-step limit value bytes rest = elim (leb_tells value limit) [
  | inl fits ↦ rw fits.0 (rest fits.1)
  | inr large ↦ rw large.0 (sym (none_after (list_all is_digit bytes) _ _
      (too_large limit (fold with_digit value bytes) (let more = fold-le value bytes in omega arith))))
]

-- digits read one by one come to what they come to as a whole
pub digits_from-whole : (limit value : ℕ) (bytes : List ℕ) → value ≤ limit
    → digits_from limit value bytes ≡ whole_from limit value bytes
digits_from-whole limit value [] fits = rw (le-leb value limit fits)
digits_from-whole limit value (byte ∷ bytes) fits =
    elim (is_digit byte) as (λ digit.
    (if digit && nat_le (with_digit value byte) limit
    then digits_from limit (with_digit value byte) bytes else None)
    ≡ (if (digit && list_all is_digit bytes)
    && nat_le (fold with_digit (with_digit value byte) bytes) limit
    then Some (fold with_digit (with_digit value byte) bytes) else None)) [
      | true ↦ whole_from-step limit (with_digit value byte) bytes
          (digits_from-whole limit (with_digit value byte) bytes)
      | false ↦ refl
    ]
