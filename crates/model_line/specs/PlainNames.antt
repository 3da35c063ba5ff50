-- Plain names, which terminals, scripts and timings have.
use Rattle.std.specs.Prelude.{◌||◌, ◌&&◌, ◌==◌, ℕ, Bool, List, length, nat_le}
use Rattle.std.specs.Char.{is_ascii_alphanumeric}
use Rattle.std.specs.List.{list_all}

-- a letter, a digit, `_` or `-`
abbrev pub is_plain_byte : ℕ → Bool
is_plain_byte b = is_ascii_alphanumeric b || ((b == 95) || (b == 45))

-- 1 to 16 plain bytes
abbrev pub is_plain_name : List ℕ → Bool
is_plain_name bytes =
    nat_le 1 (length bytes) && (nat_le (length bytes) 16 && list_all is_plain_byte bytes)
