-- A path's list gives its fields back.
use Rattle.std.specs.Prelude.{◌≡◌, ℕ, List, take, length}
use Rattle.model_line.specs.ShortTexts.{IsPadded, padded, length-text}
use Rattle.file_document.specs.declared.path.Path.TheInside.{Inside}

-- 160 bytes at most
abbrev pub IsPath : Inside → Type 0
IsPath p = IsPadded 160 p.len p.bytes

abbrev pub path_of : List ℕ → Inside
path_of text = record { bytes = padded 160 text; len = length text }

pub path_of-take : (p : Inside) → IsPath p → path_of (take p.len p.bytes) ≡ p
path_of-take p text = rw (length-text 160 p.len p.bytes text, text.zeros)
