-- Histories that were recorded, tick by tick.
use Rattle.std.proofs.Common.{◌≡◌, ℕ, zero, suc, ◌<◌, Bool, false, List, [], ◌∷◌, ◌++◌, length}
use Rattle.std.proofs.Common.{refl, arith, ◌∙◌, ap}
use Rattle.model_history.specs.Elements.{SameUpTo}
use Rattle.model_history.specs.{Recorded.at, Recorded.first_ticks}
use Rattle.model_history.specs.{FirstTickLaws.get_or-first_ticks}

-- the ticks that a list was recorded from are the list
pub first_ticks-cons : (u : ℕ → Bool) (n : ℕ) →
    first_ticks u (suc n) ≡ u 0 ∷ first_ticks (λ r. u (suc r)) n
first_ticks-cons u zero = refl
first_ticks-cons u (suc n) = ap (λ (l : List Bool). l ++ u (suc n) ∷ []) (first_ticks-cons u n)

pub first_ticks-at : (l : List Bool) → first_ticks (at l) (length l) ≡ l
first_ticks-at [] = refl
first_ticks-at (x ∷ l) = first_ticks-cons (at (x ∷ l)) (length l)
    ∙ ap (λ (k : List Bool). x ∷ k) (first_ticks-at l)

-- reading the first n ticks gives the history back
pub at-first_ticks : (u : ℕ → Bool) (n r : ℕ) → r < n → at (first_ticks u n) r ≡ u r
at-first_ticks u n r lt = get_or-first_ticks u n r false lt

-- what is read of the first ticks up to t is the history up to t
pub SameUpTo-first_ticks : (u : ℕ → Bool) (t : ℕ) → SameUpTo (at (first_ticks u (suc t))) u t
SameUpTo-first_ticks u t r le = at-first_ticks u (suc t) r (omega arith)
