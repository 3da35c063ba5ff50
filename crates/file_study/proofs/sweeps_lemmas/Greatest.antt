-- The greatest of several values, one by one.
use Rattle.std.proofs.Common.{◌≡◌, ◌+◌, ◌<◌, ℕ, List, ap, arith, drop, get_or, length, max}
use Rattle.std.proofs.lemmas.List.{drop_more}
use Rattle.file_study.specs.sweeps.Refusals.{greatest}

pub greatest_more : (most next i : ℕ) (xs : List ℕ) → i < length xs
    → next ≡ max most (get_or xs i 0)
    → max next (greatest (drop (i + 1) xs)) ≡ max most (greatest (drop i xs))
greatest_more most next i xs h is =
    let e : greatest (drop i xs) ≡ max (get_or xs i 0) (greatest (drop (i + 1) xs)) =
    ap greatest (drop_more xs i 0 h) in
    omega arith
