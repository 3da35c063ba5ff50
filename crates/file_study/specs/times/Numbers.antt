-- Numbers of a time: digits, or digits, a point and digits.
use Rattle.std.specs.Prelude.{◌==◌, ◌&&◌, ◌||◌, ◌+◌, ◌*◌, ◌^◌, ℕ, Bool, not, List, length, get_or}
use Rattle.std.specs.Prelude.{nat_le, nat_lt, Result, Ok, Err, if◌then◌else◌}
use Rattle.std.specs.List.{list_all, position_or_len, before_first, after_first}
use Rattle.base_text.specs.store.Number.{is_digit, decimal_value}
use Rattle.file_study.specs.declared.times.fraction.Fraction.{Fraction}
use Rattle.file_document.specs.declared.time_fault.TimeFault.{TimeFault}
use Rattle.file_document.specs.declared.time_fault.TimeFault.TheVariants as fault

abbrev pub is_point : ℕ → Bool
is_point byte = byte == 46

-- what stands before the point, or all where there is none
abbrev pub whole_part : List ℕ → List ℕ
whole_part word = before_first is_point word

-- what stands behind the point
abbrev pub decimals : List ℕ → List ℕ
decimals word = after_first is_point word

-- at least one digit, and no `0` before another
abbrev pub is_whole : List ℕ → Bool
is_whole digits = list_all is_digit digits
    && (length digits == 1 || (nat_lt 1 (length digits) && not (get_or digits 0 0 == 48)))

-- no point, or something behind it
abbrev pub is_parted_well : List ℕ → Bool
is_parted_well word =
    position_or_len is_point word == length word || nat_lt 0 (length (decimals word))

-- digits, or digits, a point and at least one digit
abbrev pub is_number : List ℕ → Bool
is_number word =
    is_whole (whole_part word) && (list_all is_digit (decimals word) && is_parted_well word)

-- what it comes to: the decimals are parted by ten for each of them
abbrev pub decimal_of : List ℕ → Fraction
decimal_of word = let parts = 10 ^ length (decimals word) in record {
  over = decimal_value (whole_part word) * parts + decimal_value (decimals word);
  under = parts;
}

-- the number that a word at this place is, of at most nine digits
abbrev pub number_in : ℕ → List ℕ → Result Fraction TimeFault
number_in place word =
    if is_number word then
    if nat_le (length (whole_part word) + length (decimals word)) 9 then Ok (decimal_of word)
    else Err (fault.TooManyDigits place)
    else Err (fault.NoNumber place)
