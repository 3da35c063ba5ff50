-- Numbers written as decimal digits, with no sign and no leading zero.
use Rattle.std.specs.Prelude.{◌==◌, Bool, ◌&&◌, ℕ, ◌+◌, ◌-◌, ◌*◌, ◌^◌, nat_le, List, [], ◌∷◌, fold}
use Rattle.std.specs.Prelude.{Option, None, Some, if◌then◌else◌}
use Rattle.std.specs.List.{list_all}

-- the byte is one of `0` to `9`
abbrev pub is_digit : ℕ → Bool
is_digit byte = nat_le 48 byte && nat_le byte 57

-- a number with one digit more behind it
abbrev pub with_digit : ℕ → ℕ → ℕ
with_digit value byte = value * 10 + (byte - 48)

-- what the digits come to
abbrev pub decimal_value : List ℕ → ℕ
decimal_value digits = fold with_digit 0 digits

-- the same, where every byte is a digit and the number fits 32 bits
abbrev pub digits_value : List ℕ → Option ℕ
digits_value bytes = if list_all is_digit bytes && nat_le (decimal_value bytes) (2 ^ 32 - 1)
    then Some (decimal_value bytes) else None

-- the number that the bytes write: digits, of which the first is `0` only where it stands alone
abbrev pub number_of : List ℕ → Option ℕ
number_of [] = None
number_of (first ∷ []) = digits_value (first ∷ [])
number_of (first ∷ second ∷ rest) =
    if first == 48 then None else digits_value (first ∷ second ∷ rest)
