-- Text in which nothing can be taken for markup.
use Rattle.std.specs.Prelude.{◌==◌, ◌||◌, ◌&&◌, ℕ, Bool, not, List, [], ◌∷◌, codes, nat_le}
use Rattle.std.specs.Prelude.{if◌then◌else◌}
use Rattle.std.specs.List.{flat_map}

-- printable ASCII, and the line feed
abbrev pub is_printable : ℕ → Bool
is_printable c = (c == 10) || (nat_le 32 c && nat_le c 126)

-- a character as text: by its reference where markup uses it, `?` where it is not printable
unfoldable pub escape : ℕ → List ℕ
escape c =
    if c == 38 then codes "&amp;"
    else (if c == 60 then codes "&lt;"
    else (if c == 62 then codes "&gt;"
    else (if c == 34 then codes "&quot;"
    else (if is_printable c then c ∷ [] else codes "?"))))

abbrev pub escaped : List ℕ → List ℕ
escaped words = flat_map escape words

-- a character that neither begins nor ends a tag or a quoted value
abbrev pub is_plain : ℕ → Bool
is_plain c = is_printable c && not (c == 60) && not (c == 62) && not (c == 34)
