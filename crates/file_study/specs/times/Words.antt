-- The words of a text, parted by spaces, and the signs among them.
use Rattle.std.specs.Prelude.{◌+◌, ℕ, zero, suc, Bool, not, List, [], codes, drop}
use Rattle.std.specs.Prelude.{if◌then◌else◌}
use Rattle.std.specs.List.{position_or_len, before_first}
use Rattle.std.specs.Str.{bytes_eq}
use Rattle.base_text.specs.lines.Lines.{is_space}
use Rattle.file_study.specs.declared.times.word.Sign.{Sign}
use Rattle.file_study.specs.declared.times.word.Sign.TheVariants as sign

abbrev pub is_no_space : ℕ → Bool
is_no_space byte = not (is_space byte)

-- the first place from here on whose byte is no space, or the end of the text
abbrev pub next_start : List ℕ → ℕ → ℕ
next_start text from = from + position_or_len is_no_space (drop from text)

-- the first place from here on whose byte is a space, or the end of the text
abbrev pub next_end : List ℕ → ℕ → ℕ
next_end text from = from + position_or_len is_space (drop from text)

-- Where word k begins: at the first byte behind the words before it that is no space. Where there
-- are fewer words this is the end of the text.
abbrev pub place_of : List ℕ → ℕ → ℕ
place_of text zero = next_start text 0
place_of text (suc k) = next_start text (next_end text (place_of text k))

-- word k: the bytes from there to the next space or the end of the text
abbrev pub word_of : List ℕ → ℕ → List ℕ
word_of text k = before_first is_space (drop (place_of text k) text)

-- the signs
abbrev pub sign_in : List ℕ → Sign
sign_in word =
    if bytes_eq word [] then sign.End
    else if bytes_eq word (codes "..") then sign.To
    else if bytes_eq word (codes "+-") then sign.PlusMinus
    else if bytes_eq word (codes "by") then sign.By
    else if bytes_eq word (codes "%") then sign.Percent
    else sign.Other

-- the sign that word k is
abbrev pub sign_at : List ℕ → ℕ → Sign
sign_at text k = sign_in (word_of text k)
