-- A whole number of a unit, written and read.
use Rattle.std.proofs.Common.{◌≡◌, ◌≢◌, ◌+◌, ◌*◌, ◌^◌, ◌<◌, ◌≤◌, ◌&&◌, ◌||◌, ℕ, Bool, true}
use Rattle.std.proofs.Common.{not, List, [], ◌∷◌, ◌++◌, length, take, drop, get_or, Option, Result}
use Rattle.std.proofs.Common.{Ok, Err, if◌then◌else◌, nat_le, refl, sym, ◌∙◌, ap, arith, ne_eqb}
use Rattle.std.proofs.Common.{eq-eqb, zero-add, length-append, inl, inr}
use Rattle.std.proofs.Math.Seq.{drop-append_seam, take-append_seam, drop-append-add}
use Rattle.std.proofs.lemmas.Bool.{le-leb, cases_eq, and_parts}
use Rattle.std.proofs.lemmas.List.{drop_all, append-nil}
use Rattle.std.proofs.lemmas.Fmt.{decimal_nonempty, first_decimal, length-decimal-le, decimal_digit}
use Rattle.std.specs.Prelude.{nat_lt}
use Rattle.std.specs.Fmt.{decimal}
use Rattle.std.specs.List.{list_all, position_or_len, before_first}
use Rattle.base_text.specs.store.Number.{is_digit, decimal_value}
use Rattle.base_text.specs.store.DecimalLaws.{are_digits}
use Rattle.base_text.specs.store.DigitLaws.{digit_is}
use Rattle.file_document.specs.declared.time_fault.TimeFault.{TimeFault}
use Rattle.file_document.specs.declared.time_fault.TimeFault.TheVariants as fault
use Rattle.file_study.specs.declared.times.fraction.Fraction.{Fraction}
use Rattle.file_study.specs.declared.times.word.Sign.TheVariants as sign
use Rattle.base_text.specs.lines.Lines.{is_space}
use Rattle.file_study.specs.times.Words.{is_no_space, next_start, next_end, place_of, word_of}
use Rattle.file_study.specs.times.Words.{sign_in, sign_at}
use Rattle.file_study.specs.times.Numbers.{is_point, is_whole, is_parted_well, whole_part, decimals}
use Rattle.file_study.specs.times.Numbers.{number_in}
use Rattle.file_study.specs.{times.Units.whole, times.Units.unit_in, times.Fractions.times}
use Rattle.base_memory.specs.Gives.{◌>>=◌}
use Rattle.file_study.specs.times.Times.{time_of, interval, number_at, unit_at, first_number}
use Rattle.file_study.specs.times.Times.{behind_number, behind_value}

-- ---- digits are no spaces and no points

no_space : (d : ℕ) → is_digit d ≡ true → is_no_space d ≡ true
no_space d is =
    let range : (48 ≤ d) × (d ≤ 57) = digit_is d is in
    ap not (ne_eqb d 32 (λ e. absurd (omega arith)))

no_point : (d : ℕ) → is_digit d ≡ true → not (is_point d) ≡ true
no_point d is =
    let range : (48 ≤ d) × (d ≤ 57) = digit_is d is in
    ap not (ne_eqb d 46 (λ e. absurd (omega arith)))

all_are : (q : ℕ → Bool) → ((d : ℕ) → is_digit d ≡ true → q d ≡ true) → (ds : List ℕ)
    → list_all is_digit ds ≡ true → list_all q ds ≡ true
all_are q each [] is = refl
all_are q each (d ∷ ds) is =
    let parts : (is_digit d ≡ true) × (list_all is_digit ds ≡ true) = and_parts _ _ is in
    rw (each d parts.0) (all_are q each ds parts.1)

-- ---- where the first of some byte stands

first_is : (p : ℕ → Bool) (ds rest : List ℕ) (b : ℕ) → list_all (λ d. not (p d)) ds ≡ true
    → p b ≡ true → position_or_len p (ds ++ b ∷ rest) ≡ length ds
first_is p [] rest b is here = rw here refl
first_is p (d ∷ ds) rest b is here =
    let parts : (not (p d) ≡ true) × (list_all (λ e. not (p e)) ds ≡ true) = and_parts _ _ is in
    let more : position_or_len p (ds ++ b ∷ rest) ≡ length ds =
    first_is p ds rest b parts.1 here in
    rw (parts.0, more) (omega arith)

none_is : (p : ℕ → Bool) (ds : List ℕ) → list_all (λ d. not (p d)) ds ≡ true
    → position_or_len p ds ≡ length ds
none_is p [] is = refl
none_is p (d ∷ ds) is =
    let parts : (not (p d) ≡ true) × (list_all (λ e. not (p e)) ds ≡ true) = and_parts _ _ is in
    let more : position_or_len p ds ≡ length ds = none_is p ds parts.1 in
    rw (parts.0, more) (omega arith)

-- ---- the words

module _ (unit : List ℕ) (start : position_or_len is_no_space (32 ∷ unit) ≡ 1)
    (ends : position_or_len is_space unit ≡ length unit)
    (alone : before_first is_space unit ≡ unit)
    (d : ℕ) (ds : List ℕ) (digits : list_all is_digit (d ∷ ds) ≡ true) where
  abbrev text : List ℕ
  text = (d ∷ ds) ++ 32 ∷ unit

  abbrev size : ℕ
  size = length (d ∷ ds)

  space_at : position_or_len is_space text ≡ size
  space_at = first_is is_space (d ∷ ds) unit 32 (all_are is_no_space no_space (d ∷ ds) digits) refl

  place-0 : place_of text 0 ≡ 0
  place-0 =
      zero-add _ ∙ first_is is_no_space [] (ds ++ 32 ∷ unit) d refl (no_space d (and_parts (is_digit d)
      (list_all is_digit ds) digits).0)

  pub word-0 : word_of text 0 ≡ d ∷ ds
  word-0 =
      ap (λ p. before_first is_space (drop p text)) place-0 ∙ ap (λ n. take n text) space_at
      ∙ take-append_seam (d ∷ ds) (32 ∷ unit)

  place-1 : place_of text 1 ≡ size + 1
  place-1 =
      ap (λ e. next_start text e) (ap (λ p. next_end text p) place-0 ∙ (zero-add _ ∙ space_at))
      ∙ ap (λ l. size + position_or_len is_no_space l) (drop-append_seam (d ∷ ds) (32 ∷ unit))
      ∙ ap (λ n. size + n) start

  pub word-1 : word_of text 1 ≡ unit
  word-1 =
      ap (λ p. before_first is_space (drop p text)) place-1
      ∙ ap (λ l. before_first is_space l) (drop-append-add (d ∷ ds) (32 ∷ unit) 1) ∙ alone

  end-1 : next_end text (place_of text 1) ≡ size + 1 + length unit
  end-1 =
      ap (λ p. next_end text p) place-1
      ∙ ap (λ l. size + 1 + position_or_len is_space l) (drop-append-add (d ∷ ds) (32 ∷ unit) 1)
      ∙ ap (λ n. size + 1 + n) ends

  behind-1 : drop (size + 1 + length unit) text ≡ []
  behind-1 =
      drop_all (size + 1 + length unit) text (omega (arith, length-append (d ∷ ds) (32 ∷ unit)))

  pub word-2 : word_of text 2 ≡ []
  word-2 =
      ap (λ e. before_first is_space (drop (next_start text e) text)) end-1
      ∙ ap (λ l. before_first is_space (drop (size + 1 + length unit
      + position_or_len is_no_space l) text)) behind-1
      ∙ ap (λ l. before_first is_space l) (drop_all (size + 1 + length unit + 0) text (omega (
        arith,
        length-append (d ∷ ds) (32 ∷ unit),
      )))

-- ---- the first word is a number

sign_is : (d : ℕ) (ds : List ℕ) → is_digit d ≡ true → sign_in (d ∷ ds) ≡ sign.Other
sign_is d ds is =
    let range : (48 ≤ d) × (d ≤ 57) = digit_is d is in
    rw (
      ne_eqb d 46 (λ e. absurd (omega arith)),
      ne_eqb d 43 (λ e. absurd (omega arith)),
      ne_eqb d 98 (λ e. absurd (omega arith)),
      ne_eqb d 37 (λ e. absurd (omega arith)),
    ) refl

-- what whole digits, decimals and the test of the point make
abbrev parted : ℕ → List ℕ → List ℕ → Bool → Result Fraction TimeFault
parted place digits behind well =
    if is_whole digits && (list_all is_digit behind && well) then
    if nat_le (length digits + length behind) 9 then Ok (record {
      over = decimal_value digits * 10 ^ length behind + decimal_value behind;
      under = 10 ^ length behind;
    })
    else Err (fault.TooManyDigits place)
    else Err (fault.NoNumber place)

whole_number : (place : ℕ) (w : List ℕ) → list_all is_digit w ≡ true → is_whole w ≡ true
    → length w ≤ 9 → number_in place w ≡ Ok (whole (decimal_value w))
whole_number place w digits whole_digits few =
    let at : position_or_len is_point w ≡ length w =
    none_is is_point w (all_are (λ d. not (is_point d)) no_point w digits) in
    let front : whole_part w ≡ w =
    ap (λ n. take n w) at ∙ (ap (λ l. take (length w) l) (sym (append-nil w))
    ∙ take-append_seam w []) in
    let behind : decimals w ≡ [] =
    ap (λ n. drop (n + 1) w) at ∙ drop_all (length w + 1) w (omega arith) in
    let well : is_parted_well w ≡ true =
    ap (λ b. b || nat_lt 0 (length (decimals w))) (eq-eqb _ _ at) in
    let fits : nat_le (length w + 0) 9 ≡ true = le-leb (length w + 0) 9 (omega arith) in
    let same : decimal_value w * 1 + 0 ≡ decimal_value w = omega arith in
    let a : number_in place w ≡ parted place w (decimals w) (is_parted_well w) =
    ap (λ l. parted place l (decimals w) (is_parted_well w)) front in
    let b : parted place w (decimals w) (is_parted_well w)
    ≡ parted place w [] (is_parted_well w) =
    ap (λ l. parted place w l (is_parted_well w)) behind in
    let e : parted place w [] (is_parted_well w) ≡ parted place w [] true =
    ap (λ t. parted place w [] t) well in
    a ∙ b ∙ e ∙ rw (whole_digits, fits, same) refl

whole_is : (w : List ℕ) → list_all is_digit w ≡ true → 0 < length w
    → (1 < length w → get_or w 0 0 ≢ 48) → is_whole w ≡ true
whole_is w digits some first = elim (cases_eq (length w) 1) [
  | inl one ↦ rw (digits, eq-eqb (length w) 1 one) refl
  | inr more ↦
      let many : 1 < length w = (let m = more in omega arith) in
      rw (
        digits,
        ne_eqb (length w) 1 (λ e. more e),
        le-leb 2 (length w) many,
        ne_eqb (get_or w 0 0) 48 (first many),
      ) refl
]

decimal_number : (place n : ℕ) → n < 10 ^ 9 → number_in place (decimal n) ≡ Ok (whole n)
decimal_number place n small =
    let wide : n < 2 ^ 64 = omega arith in
    let are = are_digits n wide in
    let some : 0 < length (decimal n) = decimal_nonempty n wide in
    let first : 1 < length (decimal n) → get_or (decimal n) 0 0 ≢ 48 =
    λ many zero. elim (cases_eq n 0) [
      | inl none ↦
          let one : length (decimal n) ≡ 1 = ap (λ k. length (decimal k)) none
          ∙ ap length (decimal_digit 0 (omega arith)) in
          absurd (omega arith)
      | inr more ↦
          let big : 0 < n = (let o = more in omega arith) in
          let f = first_decimal n big wide in
          absurd (omega arith)
    ] in
    whole_number place (decimal n) are.digits (whole_is (decimal n) are.digits some first)
    (length-decimal-le 9 n (omega arith) small wide)
    ∙ ap (λ v. Ok (whole v)) are.value

-- ---- the whole text

module _ (unit : List ℕ) (one : ℕ) (start : position_or_len is_no_space (32 ∷ unit) ≡ 1)
    (ends : position_or_len is_space unit ≡ length unit)
    (alone : before_first is_space unit ≡ unit) (named : sign_in unit ≡ sign.Other)
    (hertz : Option ℕ) (means : (place : ℕ) → unit_in place hertz unit ≡ Ok (whole one))
    (n : ℕ) (small : n < 10 ^ 9) where
  read_as : (w : List ℕ) → decimal n ≡ w → list_all is_digit w ≡ true
      → time_of hertz (w ++ 32 ∷ unit) ≡ Ok (interval (whole (n * one)) (whole (n * one)))
  read_as [] is digits =
      let some : 0 < length (decimal n) = decimal_nonempty n (omega arith) in
      let none : length (decimal n) ≡ 0 = ap length is in
      absurd (omega arith)
  read_as (d ∷ ds) is digits =
      let text : List ℕ = (d ∷ ds) ++ 32 ∷ unit in
      let first : word_of text 0 ≡ d ∷ ds = word-0 unit start ends alone d ds digits in
      let second : word_of text 1 ≡ unit = word-1 unit start ends alone d ds digits in
      let third : word_of text 2 ≡ [] = word-2 unit start ends alone d ds digits in
      let number : number_at text 0 ≡ Ok (whole n) =
      ap (λ w. number_in (place_of text 0) w) (first ∙ sym is)
      ∙ decimal_number (place_of text 0) n small in
      let sign-0 : sign_at text 0 ≡ sign.Other =
      ap sign_in first ∙ sign_is d ds (and_parts (is_digit d) (list_all is_digit ds) digits).0 in
      let begun : first_number text (sign_at text 0) ≡ Ok (whole n) =
      ap (λ s. first_number text s) sign-0 ∙ number in
      let sign-1 : sign_at text 1 ≡ sign.Other = ap sign_in second ∙ named in
      let measure : unit_at hertz text 1 ≡ Ok (whole one) =
      ap (λ w. unit_in (place_of text 1) hertz w) second ∙ means (place_of text 1) in
      let sign-2 : sign_at text 2 ≡ sign.End = ap sign_in third in
      let value : Fraction = times (whole n) (whole one) in
      ap (λ (r : Result Fraction TimeFault). r >>= λ m. behind_number hertz text m (sign_at text 1))
      begun
      ∙ ap (λ s. behind_number hertz text (whole n) s) sign-1
      ∙ ap (λ (r : Result Fraction TimeFault). (r >>= λ o. Ok (times (whole n) o))
      >>= λ v. behind_value hertz text v (sign_at text 2)) measure
      ∙ ap (λ s. behind_value hertz text value s) sign-2

  pub read_back : time_of hertz (decimal n ++ 32 ∷ unit)
      ≡ Ok (interval (whole (n * one)) (whole (n * one)))
  read_back = read_as (decimal n) refl (are_digits n (omega arith)).digits
