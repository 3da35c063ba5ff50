-- Steps one after another, up to the first fault.
use Rattle.std.specs.Prelude.{ℕ, zero, suc, Result, Ok}
use Rattle.base_memory.specs.Gives.{◌>>=◌}

-- what steps number 0 to n - 1 make of a start
abbrev pub steps : {S F : Type 0} → (S → ℕ → Result S F) → S → ℕ → Result S F
steps step start zero = Ok start
steps step start (suc n) = steps step start n >>= λ s. step s n
