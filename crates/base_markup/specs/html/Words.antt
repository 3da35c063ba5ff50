-- Text in HTML, in which nothing can be taken for markup.
use Rattle.std.specs.Prelude.{◌==◌, ◌||◌, ◌&&◌, ◌%◌, ℕ, Bool, not, List, codes, nat_le}
use Rattle.std.specs.Prelude.{if◌then◌else◌, chars, encode_utf8}
use Rattle.std.specs.List.{flat_map}
use Rattle.std.specs.Str.{is_utf8}
use Rattle.base_markup.specs.svg.Escape.{escaped}

-- U+FDD0 to U+FDEF, and the last two of each 65,536
abbrev pub is_noncharacter : ℕ → Bool
is_noncharacter c = (nat_le 64976 c && nat_le c 65007) || nat_le 65534 (c % 65536)

-- what HTML 5 has as text: the line feed, printable ASCII, and from U+A0 on all but noncharacters
abbrev pub is_text : ℕ → Bool
is_text c = (c == 10) || (nat_le 32 c && nat_le c 126) || (nat_le 160 c && not (is_noncharacter c))

-- a character that markup does not use: itself in UTF-8, `?` where it is no text
unfoldable pub plain_text : ℕ → List ℕ
plain_text c = if is_text c then encode_utf8 c else codes "?"

-- a character: by its reference where markup uses it
unfoldable pub character_text : ℕ → List ℕ
character_text c =
    if c == 38 then codes "&amp;"
    else (if c == 60 then codes "&lt;"
    else (if c == 62 then codes "&gt;"
    else (if c == 34 then codes "&quot;"
    else plain_text c)))

abbrev pub characters_text : List ℕ → List ℕ
characters_text words = flat_map character_text (chars words)

-- words in UTF-8 by their characters; all others by their bytes, `?` for each that is not ASCII
unfoldable pub words_text : List ℕ → List ℕ
words_text words = if is_utf8 words then characters_text words else escaped words

-- no byte that begins or ends a tag, or ends a quoted value
abbrev pub is_unmarked : ℕ → Bool
is_unmarked c = not (c == 60) && not (c == 62) && not (c == 34)
