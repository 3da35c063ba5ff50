-- Lists made of a list for each number.
use Rattle.std.specs.Prelude.{◌++◌, ℕ, zero, suc, List, []}

-- the lists of all numbers below n, one after another
abbrev pub each_below : {A : Type 0} → ℕ → (ℕ → List A) → List A
each_below zero list = []
each_below (suc n) list = each_below n list ++ list n
