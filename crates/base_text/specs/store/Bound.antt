-- The bound on how much one pull gives or one push takes.
use Rattle.std.specs.Prelude.{ℕ, min, Option, None, Some}

-- an amount, cut to the bound if there is one
abbrev pub at_most : Option ℕ → ℕ → ℕ
at_most None amount = amount
at_most (Some most) amount = min amount most
