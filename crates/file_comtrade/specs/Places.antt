-- Lines and columns of a text; the first line and the first column have number 1.
use Rattle.std.specs.Prelude.{◌==◌, ◌+◌, ◌-◌, ℕ, zero, suc, List, length}
use Rattle.std.specs.List.{before_first, after_first}
use Rattle.file_comtrade.specs.{Text.unmarked}

-- what stands behind so many of a byte
abbrev pub behind : ℕ → ℕ → List ℕ → List ℕ
behind byte zero text = text
behind byte (suc n) text = after_first (λ b. b == byte) (behind byte n text)

-- the line with this index
abbrev pub line_in : List ℕ → ℕ → List ℕ
line_in text k = before_first (λ b. b == 10) (behind 10 k text)

-- where a field of a line begins, by its index: behind so many commas
abbrev pub field_start : List ℕ → ℕ → ℕ
field_start line k = length line - length (behind 44 k line)

-- the column at which a field of a line begins, by their indices; a byte order mark counts for nothing
abbrev pub column_in : List ℕ → ℕ → ℕ → ℕ
column_in text k field = field_start (line_in (unmarked text) k) field + 1
