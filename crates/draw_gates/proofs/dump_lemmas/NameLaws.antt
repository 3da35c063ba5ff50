-- The names of a line's terminals.
use Rattle.std.proofs.Common.{◌≡◌, ℕ, zero, suc, ◌≤◌, List, [], ◌∷◌, length, refl}
use Rattle.std.proofs.Common.{arith}
use Rattle.model_line.specs.{declared.line.Terminal.Terminal, ParamNames.name_at}

-- there is none past the last terminal
pub name_past : (ts : List Terminal) (k : ℕ) → length ts ≤ k → name_at ts k ≡ []
name_past [] k past = refl
name_past (t ∷ ts) zero past = absurd (omega arith)
name_past (t ∷ ts) (suc k) past = name_past ts k (omega arith)
