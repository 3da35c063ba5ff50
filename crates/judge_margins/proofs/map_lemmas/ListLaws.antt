-- Lists that have a first number.
use Rattle.std.proofs.Common.{◌≡◌, ℕ, List, [], ◌∷◌, length}
use Rattle.std.proofs.Common.{sym, ap, ◌-◌, ◌<◌, ◌≤◌, get_or, take, drop}
use Rattle.std.proofs.Common.{take_all, arith}

-- a list is its first number and the rest
pub at_front : (xs : List ℕ) → 0 < length xs
    → xs ≡ get_or xs 0 0 ∷ take (length xs - 1) (drop 1 xs)
at_front [] some = absurd (omega arith)
at_front (x ∷ xs) some =
    let all : length xs ≤ length (x ∷ xs) - 1 = omega arith in
    ap (λ (ys : List ℕ). x ∷ ys) (sym (take_all (length (x ∷ xs) - 1) xs all))
