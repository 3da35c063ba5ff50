-- A text of two words says one value.
use Rattle.std.proofs.Common.{◌≡◌, ℕ, List, [], Option, Result, Ok, Err, sym, ap, ◌∙◌}
use Rattle.file_document.specs.declared.time_fault.TimeFault.{TimeFault}
use Rattle.file_document.specs.declared.time_fault.TimeFault.TheVariants as fault
use Rattle.file_study.specs.declared.times.fraction.Fraction.{Fraction}
use Rattle.file_study.specs.declared.times.time.{Interval.Interval, Time.Time}
use Rattle.file_study.specs.declared.times.time.Time.TheVariants as time
use Rattle.file_study.specs.declared.times.word.Sign.{Sign}
use Rattle.file_study.specs.declared.times.word.Sign.TheVariants as sign
use Rattle.file_study.specs.{times.Numbers.number_in}
use Rattle.file_study.specs.times.Fractions.{times}
use Rattle.file_study.specs.times.Words.{place_of, word_of, sign_in, sign_at}
use Rattle.base_memory.specs.Gives.{◌>>=◌}
use Rattle.file_study.specs.times.Times.{number_at, unit_at, measured_at, ends_at, interval}
use Rattle.file_study.specs.times.Times.{behind_value, behind_number, first_number, time_of}

-- where two readings in order give something, the first does
bind_ok : {A B : Type 0} (r : Result A TimeFault) (next : A → Result B TimeFault) (y : B)
    → (r >>= next) ≡ Ok y → (x : A) × (next x ≡ Ok y)
bind_ok (Ok x) next y is = (x, is)
bind_ok (Err why) next y is = absurd (cc)

module _ (hertz : Option ℕ) (text : List ℕ) (ends : Interval) (two : word_of text 2 ≡ []) where
  value_alone : (value : Fraction) → behind_value hertz text value (sign_at text 2)
      ≡ Ok (time.Interval ends) → ends.least ≡ ends.greatest
  value_alone value is =
      let here : behind_value hertz text value (sign_at text 2) ≡ Ok (interval value value) =
      ap (λ word. behind_value hertz text value (sign_in word)) two in
      let same : record { least = value; greatest = value } ≡ ends = cc in
      sym (ap (λ (e : Interval). e.least) same) ∙ ap (λ (e : Interval). e.greatest) same

  with_unit : (number : Fraction)
      → (measured_at hertz text number 1
      >>= λ value. behind_value hertz text value (sign_at text 2)) ≡ Ok (time.Interval ends)
      → ends.least ≡ ends.greatest
  with_unit number is =
      let read = bind_ok (measured_at hertz text number 1)
      (λ value. behind_value hertz text value (sign_at text 2)) (time.Interval ends) is in
      value_alone read.0 read.1

  behind : (number : Fraction) (s : Sign) → behind_number hertz text number s
      ≡ Ok (time.Interval ends) → ends.least ≡ ends.greatest
  behind number sign.End is = with_unit number is
  behind number sign.To is =
      let none : number_at text 2 ≡ Err (fault.NoNumber (place_of text 2)) =
      ap (λ word. number_in (place_of text 2) word) two in
      let next : Fraction → Result Time TimeFault =
      λ last. unit_at hertz text 3
      >>= λ one. ends_at hertz text (times number one) (times last one) 2 in
      let faulty : (number_at text 2 >>= next) ≡ Err (fault.NoNumber (place_of text 2)) =
      ap (λ r. r >>= next) none in
      absurd (cc)
  behind number sign.PlusMinus is = with_unit number is
  behind number sign.By is = with_unit number is
  behind number sign.Percent is = with_unit number is
  behind number sign.Other is = with_unit number is

  pub equal_ends : time_of hertz text ≡ Ok (time.Interval ends) → ends.least ≡ ends.greatest
  equal_ends is =
      let read = bind_ok (first_number text (sign_at text 0))
      (λ number. behind_number hertz text number (sign_at text 1)) (time.Interval ends) is in
      behind read.0 (sign_at text 1) read.1
