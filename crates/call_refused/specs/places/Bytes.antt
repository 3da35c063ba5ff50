-- Lines and bytes.
use Rattle.std.specs.Prelude.{◌||◌, ◌==◌, ℕ, Bool, List, Option, Some, None, position, take}
use Rattle.std.specs.List.{list_any}

-- a line feed or a carriage return
abbrev pub is_break : ℕ → Bool
is_break b = (b == 10) || (b == 13)

-- the bytes before a place, or all
abbrev pub up_to : Option ℕ → List ℕ → List ℕ
up_to None bytes = bytes
up_to (Some end) bytes = take end bytes

-- the bytes before the first line break
abbrev pub first_line : List ℕ → List ℕ
first_line bytes = up_to (position is_break bytes) bytes

abbrev pub has_byte : ℕ → List ℕ → Bool
has_byte b bytes = list_any (λ x. x == b) bytes
