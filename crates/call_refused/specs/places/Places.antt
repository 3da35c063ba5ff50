-- Lines and columns. A line ends with a line feed; the first line and the first column have number 1.
use Rattle.std.specs.Prelude.{◌+◌, ◌==◌, ℕ, zero, suc, List, take, count_by, get_or, if◌then◌else◌}

-- the number of the line in which a byte stands: one more than the line feeds before it
abbrev pub line_number_of : List ℕ → ℕ → ℕ
line_number_of bytes at = count_by (λ b. b == 10) (take at bytes) + 1

-- how many bytes stand before a place in its line
unfoldable pub before_in_line : List ℕ → ℕ → ℕ
before_in_line bytes zero = 0
before_in_line bytes (suc k) =
    if get_or bytes k 0 == 10 then 0 else before_in_line bytes k + 1

-- a column: one more than the bytes before it in its line
abbrev pub column_of : List ℕ → ℕ → ℕ
column_of bytes at = before_in_line bytes at + 1
