-- The fields of a name, from the list that it is seen as.
use Rattle.std.specs.Prelude.{◌≡◌, ◌<◌, ℕ, List, take, length}
use Rattle.model_line.specs.ShortTexts.{IsPadded, padded, length-text}
use Rattle.model_line.specs.declared.name.Name.TheInside.{Inside}

-- a byte at least
abbrev pub IsName : Inside → Type 0
IsName n = (0 < n.len) × IsPadded 64 n.len n.bytes

-- the fields of the name of these bytes
abbrev pub from_list : List ℕ → Inside
from_list text = record { bytes = padded 64 text; len = length text }

-- a name's list gives its fields back
pub from_list-take : (n : Inside) → IsName n → from_list (take n.len n.bytes) ≡ n
from_list-take n name = rw (length-text 64 n.len n.bytes name.1, name.1.zeros)
