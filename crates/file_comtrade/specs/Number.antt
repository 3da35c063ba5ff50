-- Numbers written in decimal digits.
use Rattle.std.specs.Prelude.{◌&&◌, ◌==◌, ◌+◌, ◌-◌, ℕ, List, [], ◌∷◌, Option, Some, None}
use Rattle.std.specs.Prelude.{length, take, drop, fold, nat_le, nat_lt, min, replicate}
use Rattle.std.specs.Prelude.{if◌then◌else◌, option_and_then}
use Rattle.std.specs.{List.list_all, Option.option_or}
use Rattle.base_text.specs.store.Number.{is_digit, with_digit}
use Rattle.file_comtrade.specs.Text.{cut_at}

-- what a number is with these bytes behind it, if all are digits and it is below 2^64
abbrev pub digits_onto : ℕ → List ℕ → Option ℕ
digits_onto value bytes =
    if list_all is_digit bytes && nat_le (fold with_digit value bytes) 18446744073709551615
    then Some (fold with_digit value bytes) else None

abbrev pub below_2_32 : Option ℕ → Option ℕ
below_2_32 None = None
below_2_32 (Some n) = if nat_lt n 4294967296 then Some n else None

-- one digit or more, and nothing else, of a number below 2^64; zeros may lead
unfoldable pub whole_of : List ℕ → Option ℕ
whole_of [] = None
whole_of (byte ∷ bytes) = digits_onto 0 (byte ∷ bytes)

-- such a number below 2^32
abbrev pub natural_of : List ℕ → Option ℕ
natural_of bytes = below_2_32 (whole_of bytes)

-- the digits before the point, those of so many places behind it, and zeros at the places left; any
-- further digits are dropped
unfoldable pub scaled_digits : ℕ → List ℕ → List ℕ → Option ℕ
scaled_digits places whole decimals =
    if list_all is_digit (drop (min places (length decimals)) decimals)
    then option_and_then
    (λ v. option_and_then
    (λ w. digits_onto w (replicate (places - min places (length decimals)) 48))
    (digits_onto v (take (min places (length decimals)) decimals)))
    (digits_onto 0 whole)
    else None

unfoldable pub scaled_parts : ℕ → List ℕ → List ℕ → Option ℕ
scaled_parts places [] [] = None
scaled_parts places [] (d ∷ ds) = scaled_digits places [] (d ∷ ds)
scaled_parts places (w ∷ ws) decimals = scaled_digits places (w ∷ ws) decimals

abbrev pub scaled_at : ℕ → List ℕ → Option (List ℕ × List ℕ) → Option ℕ
scaled_at places bytes (Some parts) = scaled_parts places parts.0 parts.1
scaled_at places bytes None = scaled_parts places bytes []

-- how many bytes stand behind the point
abbrev pub decimals_in : Option (List ℕ × List ℕ) → ℕ
decimals_in None = 0
decimals_in (Some parts) = length parts.1

unfoldable pub decimals_of : List ℕ → ℕ
decimals_of bytes = decimals_in (cut_at 46 bytes)

-- a decimal number with no exponent
unfoldable pub plain_of : ℕ → List ℕ → Option ℕ
plain_of places bytes = scaled_at places bytes (cut_at 46 bytes)

-- the part before an `e` or an `E`, and the exponent behind it
unfoldable pub exponent_cut : List ℕ → Option (List ℕ × List ℕ)
exponent_cut bytes = option_or (cut_at 101 bytes) (cut_at 69 bytes)

abbrev pub fewer : ℕ → Option ℕ → Option ℕ
fewer places None = None
fewer places (Some n) = if nat_le n places then Some (places - n) else None

abbrev pub more : ℕ → Option ℕ → Option ℕ
more places None = None
more places (Some n) = if nat_le (places + n) 19 then Some (places + n) else None

-- an exponent moves the point: so many places are then to be taken, from 0 to 19
unfoldable pub places_moved : ℕ → List ℕ → Option ℕ
places_moved places [] = None
places_moved places (sign ∷ digits) =
    if sign == 45 then fewer places (natural_of digits)
    else if sign == 43 then more places (natural_of digits)
    else more places (natural_of (sign ∷ digits))

abbrev pub scaled_parted : ℕ → List ℕ → Option (List ℕ × List ℕ) → Option ℕ
scaled_parted places bytes None = plain_of places bytes
scaled_parted places bytes (Some parts) =
    option_and_then (λ moved. plain_of moved parts.0) (places_moved places parts.1)

-- a decimal number, in units of 10^-places, rounded down, if it is below 2^64; it may have an exponent
unfoldable pub scaled_of : ℕ → List ℕ → Option ℕ
scaled_of places bytes = scaled_parted places bytes (exponent_cut bytes)
