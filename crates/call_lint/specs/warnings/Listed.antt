-- Lists of warnings, made of tests.
use Rattle.std.specs.Prelude.{◌++◌, ℕ, zero, suc, Bool, true, false, List, [], ◌∷◌}
use Rattle.call_lint.specs.declared.warnings.warning.Warning.{Warning}

-- the warning, where the test holds
abbrev pub told_if : Bool → Warning → List Warning
told_if true w = w ∷ []
told_if false w = []

-- what is told of each number below n, in order
abbrev pub told_below : ℕ → (ℕ → List Warning) → List Warning
told_below zero told = []
told_below (suc n) told = told_below n told ++ told n
