-- The share of a fault of a list in which the shares stand one after another, and what is left.
use Rattle.std.proofs.Common.{◌≡◌, ℕ, ◌+◌, ◌-◌, ◌≤◌, ◌∙◌, List, length, take, drop}
use Rattle.std.proofs.Common.{arith, length-drop, sym}
use Rattle.std.specs.Prelude.{min}
use Rattle.std.proofs.lemmas.List.{drop-drop, drop_min, take_min}

pub own_share : {X : Type 0} (n start : ℕ) (xs : List X) → start ≤ length xs
    → take (min (start + n) (length xs) - start) (drop start xs) ≡ take n (drop start xs)
own_share n start xs within =
    let e : min (start + n) (length xs) - start ≡ min n (length (drop start xs)) =
    rw (length-drop start xs) (omega arith) in
    rw e (take_min n (drop start xs))

pub left_share : {X : Type 0} (n start : ℕ) (xs : List X)
    → drop (min (start + n) (length xs)) xs ≡ drop n (drop start xs)
left_share n start xs = drop_min (start + n) xs ∙ sym (drop-drop n start xs)
