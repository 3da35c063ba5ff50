-- Slips in one record of scripts, and in a line of a TOML document.
use Rattle.std.specs.Prelude.{◌&&◌, ◌==◌, ◌+◌, ◌-◌, ℕ, Bool, List, Option, Some, None}
use Rattle.std.specs.Prelude.{if◌then◌else◌, get_or, length, codes}
use Rattle.std.specs.List.{list_all}
use Rattle.base_text.specs.store.Number.{is_digit}
use Rattle.model_history.specs.Elements.{some_below}
use Rattle.call_refused.specs.declared.words.slip.Slip.{Slip}
use Rattle.call_refused.specs.declared.words.slip.Slip.TheVariants as slip
use Rattle.call_refused.specs.{places.Bytes.has_byte, words.Mistakes.begins_with}

abbrev pub is_only_commas : List ℕ → Bool
is_only_commas row = list_all (λ b. b == 44) row

-- the byte stands between two digits, the first of them at k
abbrev pub is_between : ℕ → List ℕ → ℕ → Bool
is_between byte line k =
    is_digit (get_or line k 0) && (get_or line (k + 1) 0 == byte)
    && is_digit (get_or line (k + 2) 0)

-- it does so somewhere
abbrev pub has_between : ℕ → List ℕ → Bool
has_between byte line = some_below (is_between byte line) (length line - 2)

-- the first slip of a record: `#` at its front, commas alone, a blank, a point between two digits
abbrev pub record_slip_of : List ℕ → Option Slip
record_slip_of row =
    if begins_with (codes "#") row then Some slip.Comment
    else if is_only_commas row then Some slip.OnlyCommas
    else if has_byte 32 row then Some slip.Blank
    else if has_between 46 row then Some slip.Point
    else None

-- the first slip of a line: a semicolon, and else a comma between two digits
abbrev pub document_slip_of : List ℕ → Option Slip
document_slip_of line =
    if has_byte 59 line then Some slip.Semicolon
    else if has_between 44 line then Some slip.DecimalComma
    else None
