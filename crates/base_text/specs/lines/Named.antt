-- Lines that are about something with a name.
use Rattle.std.specs.Prelude.{ℕ, List, ◌++◌, codes}

-- `WORD NAME TEXT`
abbrev pub named : List ℕ → List ℕ → List ℕ → List ℕ
named word name text = word ++ (codes " " ++ (name ++ (codes " " ++ text)))
