-- The name of the file that lies beside a configuration.
use Rattle.std.specs.Prelude.{◌&&◌, ◌==◌, ◌-◌, ◌++◌, ℕ, Bool, false, List, length, take}
use Rattle.std.specs.Prelude.{slice_index, codes, nat_le, if◌then◌else◌}
use Rattle.std.specs.Char.{to_ascii_lowercase}

-- the byte at this place counted from the end is this letter, in either case
abbrev pub has_letter : List ℕ → ℕ → ℕ → Bool
has_letter name k letter = to_ascii_lowercase (slice_index name (length name - k)) == letter

-- the name ends in a point and these three letters, of either case
abbrev pub ends_in : ℕ → ℕ → ℕ → List ℕ → Bool
ends_in a b c name =
    if nat_le 4 (length name)
    then (slice_index name (length name - 4) == 46) && has_letter name 3 a && has_letter name 2 b
    && has_letter name 1 c
    else false

-- a configuration: `.cfg`
abbrev pub is_config : List ℕ → Bool
is_config name = ends_in 99 102 103 name

-- a record in one file: `.cff`
abbrev pub is_one_file : List ℕ → Bool
is_one_file name = ends_in 99 102 102 name

-- its data have the ending `dat`, in the case of its last letter
abbrev pub data_name : List ℕ → List ℕ
data_name name =
    take (length name - 3) name
    ++ (if slice_index name (length name - 1) == 71 then codes "DAT" else codes "dat")
