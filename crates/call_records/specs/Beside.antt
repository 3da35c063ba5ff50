-- The name of a file that another file names.
use Rattle.std.specs.Prelude.{◌==◌, ◌-◌, ◌++◌, ℕ, Bool, false, not, List, [], ◌∷◌, length, take}
use Rattle.std.specs.Prelude.{if◌then◌else◌}
use Rattle.std.specs.List.{suffix_len}

-- up to the last slash, which is with it
abbrev pub folder_of : List ℕ → List ℕ
folder_of name = take (length name - suffix_len (λ byte. not (byte == 47)) name) name

abbrev pub is_whole : List ℕ → Bool
is_whole [] = false
is_whole (byte ∷ name) = byte == 47

-- in the folder of the other one, unless it begins with a slash
abbrev pub beside : List ℕ → List ℕ → List ℕ
beside other name = if is_whole name then name else folder_of other ++ name
