-- Numbers in a row, each after one space.
use Rattle.std.specs.Prelude.{◌++◌, ℕ, List, codes, decimal}
use Rattle.std.specs.List.{flat_map}

-- each number after one space
abbrev pub spaced : ℕ → List ℕ
spaced number = codes " " ++ decimal number

abbrev pub numbers_text : List ℕ → List ℕ
numbers_text numbers = flat_map spaced numbers
