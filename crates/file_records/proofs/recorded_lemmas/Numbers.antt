-- Numbers are read back from their decimal digits.
use Rattle.std.proofs.Common.{◌≡◌, ◌≤◌, ◌<◌, ◌+◌, ◌-◌, ◌^◌, ◌++◌, ◌∙◌, ℕ, Bool, true, List, [], ◌∷◌, length}
use Rattle.std.proofs.Common.{get_or, take, Some, None, refl, ap, arith, length-append}
use Rattle.std.proofs.lemmas.Bool.{and_parts, le-leb, leb-true, lt-ltb}
use Rattle.std.proofs.lemmas.Fmt.{decimal_nonempty}
use Rattle.std.proofs.lemmas.List.{get_or_at, take_at}
use Rattle.std.specs.List.{list_all}
use Rattle.std.specs.Prelude.{nat_le, nat_lt, decimal, option_map, if◌then◌else◌}
use Rattle.base_text.specs.store.DecimalLaws.{AreDigits, are_digits}
use Rattle.base_text.specs.store.Number.{is_digit}
use Rattle.file_comtrade.specs.{ConfigLines.counted, RawSample.stamp_of}
use Rattle.file_comtrade.specs.Number.{below_2_32, digits_onto, natural_of, whole_of}
use Rattle.file_records.proofs.recorded_lemmas.Fields.{IsField, all_weaker, solid}

digits_back : (n : ℕ) (ds : List ℕ) → AreDigits n ds → n < 2 ^ 64 → digits_onto 0 ds ≡ Some n
digits_back n ds are small =
    let fits : nat_le n 18446744073709551615 ≡ true = le-leb n 18446744073709551615 (omega arith) in
    rw (are.digits, are.value, fits) refl

whole_some : (ds : List ℕ) → 0 < length ds → whole_of ds ≡ digits_onto 0 ds
unfolding whole_of
whole_some [] some = absurd (omega arith)
whole_some (d ∷ ds) some = refl

pub whole_back : (n : ℕ) → n < 2 ^ 64 → whole_of (decimal n) ≡ Some n
whole_back n small =
    whole_some (decimal n) (decimal_nonempty n small)
    ∙ digits_back n (decimal n) (are_digits n small) small

stamp_some : (ds : List ℕ) → 0 < length ds → stamp_of ds ≡ option_map (λ (n : ℕ). Some n) (whole_of ds)
stamp_some [] some = absurd (omega arith)
stamp_some (d ∷ ds) some = refl

pub stamp_back : (n : ℕ) → n < 2 ^ 64 → stamp_of (decimal n) ≡ Some (Some n)
stamp_back n small =
    stamp_some (decimal n) (decimal_nonempty n small)
    ∙ ap (option_map (λ (m : ℕ). Some m)) (whole_back n small)

pub natural_back : (n : ℕ) → n < 2 ^ 32 → natural_of (decimal n) ≡ Some n
natural_back n small =
    let fits : nat_lt n 4294967296 ≡ true = lt-ltb n 4294967296 (omega arith) in
    ap below_2_32 (whole_back n (omega arith))
    ∙ ap (λ (t : Bool). if t then Some n else None) fits

-- digits part no fields
above_comma : (b : ℕ) → is_digit b ≡ true → nat_lt 44 b ≡ true
above_comma b digit =
    let parts = and_parts (nat_le 48 b) (nat_le b 57) digit in
    let low : 48 ≤ b = leb-true 48 b parts.0 in
    lt-ltb 44 b (omega arith)

pub decimal_solid : (n : ℕ) → n < 2 ^ 64 → list_all (λ b. nat_lt 44 b) (decimal n) ≡ true
decimal_solid n small =
    all_weaker is_digit (λ b. nat_lt 44 b) above_comma (decimal n) (are_digits n small).digits

pub decimal_field : (n : ℕ) → n < 2 ^ 64 → IsField (decimal n)
decimal_field n small = solid (decimal n) (decimal_solid n small)

-- a number with a letter behind it
counted_front : (ds : List ℕ) → counted 68 (ds ++ 68 ∷ []) ≡ natural_of ds
unfolding counted
counted_front ds =
    let bytes : List ℕ = ds ++ 68 ∷ [] in
    let long : length bytes ≡ length ds + 1 = length-append ds (68 ∷ []) in
    let at : length bytes - 1 ≡ length ds = omega arith in
    let some : nat_lt 0 (length bytes) ≡ true = lt-ltb 0 (length bytes) (omega arith) in
    let last : get_or bytes (length bytes - 1) 0 ≡ 68 =
    ap (λ (k : ℕ). get_or bytes k 0) at ∙ get_or_at ds 68 [] 0 (length ds) refl in
    let front : take (length bytes - 1) bytes ≡ ds =
    ap (λ (k : ℕ). take k bytes) at ∙ take_at ds (68 ∷ []) (length ds) refl in
    rw (some, last, front) refl

pub counted_back : (n : ℕ) → n < 2 ^ 32 → counted 68 (decimal n ++ 68 ∷ []) ≡ Some n
counted_back n small = counted_front (decimal n) ∙ natural_back n small
