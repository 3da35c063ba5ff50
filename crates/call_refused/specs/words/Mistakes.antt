-- What the bytes of a file show that was not meant, whatever they say.
use Rattle.std.specs.Prelude.{◌&&◌, ◌||◌, ℕ, Bool, List, [], ◌∷◌, Option, Some, None, not, codes}
use Rattle.std.specs.Prelude.{if◌then◌else◌, nat_eq}
use Rattle.std.specs.List.{starts_with}
use Rattle.call_refused.specs.declared.words.mistake.Mistake.{Mistake}
use Rattle.call_refused.specs.declared.words.mistake.Mistake.TheVariants as mistake
use Rattle.call_refused.specs.declared.words.mistake.Wanted.{Wanted}
use Rattle.call_refused.specs.declared.words.mistake.Wanted.TheVariants as wanted
use Rattle.call_refused.specs.places.Bytes.{first_line, has_byte}

abbrev pub begins_with : List ℕ → List ℕ → Bool
begins_with front bytes = starts_with nat_eq bytes front

-- the byte order marks of UTF-16, low byte first or high byte first
abbrev pub is_utf16 : List ℕ → Bool
is_utf16 bytes = begins_with (255 ∷ 254 ∷ []) bytes || begins_with (254 ∷ 255 ∷ []) bytes

-- that of UTF-8
abbrev pub has_mark : List ℕ → Bool
has_mark bytes = begins_with (239 ∷ 187 ∷ 191 ∷ []) bytes

-- the first line has the byte, and no comma
abbrev pub is_parted_by : ℕ → List ℕ → Bool
is_parted_by b bytes = has_byte b (first_line bytes) && not (has_byte 44 (first_line bytes))

-- the whole header stands within quotes
abbrev pub has_quoted_header : List ℕ → Bool
has_quoted_header bytes = begins_with (34 ∷ codes "script,") bytes

-- it begins as a file of scripts
abbrev pub is_of_scripts : List ℕ → Bool
is_of_scripts bytes = begins_with (codes "script,") bytes

-- where records of scripts are wanted
abbrev pub records_mistake : List ℕ → Option Mistake
records_mistake bytes =
    if has_quoted_header bytes then Some mistake.QuotedLines
    else if is_parted_by 59 bytes then Some mistake.Semicolons
    else if is_parted_by 9 bytes then Some mistake.Tabs
    else if is_parted_by 61 bytes then Some mistake.TomlForScripts
    else None

-- where a TOML document is wanted
abbrev pub document_mistake : List ℕ → Option Mistake
document_mistake bytes = if is_of_scripts bytes then Some mistake.ScriptsForToml else None

abbrev pub mistake_within : Wanted → List ℕ → Option Mistake
mistake_within wanted.Records bytes = records_mistake bytes
mistake_within wanted.Document bytes = document_mistake bytes

-- the first mistake that the bytes show
abbrev pub mistake_of : Wanted → List ℕ → Option Mistake
mistake_of w bytes =
    if is_utf16 bytes then Some mistake.Utf16
    else if has_mark bytes then Some mistake.ByteOrderMark
    else mistake_within w bytes
