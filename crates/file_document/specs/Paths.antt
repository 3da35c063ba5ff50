-- Places in a document, as they are written in faults: at most 160 bytes, and no more are shown.
use Rattle.std.specs.Prelude.{◌++◌, ◌&&◌, ℕ, List, [], ◌∷◌, length, take, nat_le, nat_lt}
use Rattle.std.specs.Prelude.{if◌then◌else◌}
use Rattle.std.specs.Fmt.{decimal}

-- a byte that is no visible ASCII character is shown as `?`
abbrev pub shown_byte : ℕ → ℕ
shown_byte b = if nat_le 33 b && nat_le b 126 then b else 63

-- one byte more, where there is room
abbrev pub pushed : List ℕ → ℕ → List ℕ
pushed path b = if nat_lt (length path) 160 then path ++ shown_byte b ∷ [] else path

-- these bytes more
abbrev pub pushed_all : List ℕ → List ℕ → List ℕ
pushed_all path [] = path
pushed_all path (b ∷ bs) = pushed_all (pushed path b) bs

-- A key of the table at a path, with a dot between them: its first 64 bytes. The path of the
-- document itself is empty.
unfoldable pub under : List ℕ → List ℕ → List ℕ
under [] key = pushed_all [] (take 64 key)
under (b ∷ path) key = pushed_all (pushed (b ∷ path) 46) (take 64 key)

-- item i of the array at a path, as `fault[0]`
unfoldable pub numbered : List ℕ → ℕ → List ℕ
numbered path i = pushed (pushed_all (pushed path 91) (decimal i)) 93
