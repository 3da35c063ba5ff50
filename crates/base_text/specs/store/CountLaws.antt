-- Laws of counts of faults: two calls one after another, and a count that did not rise.
use Rattle.std.proofs.Common.{◌≡◌, ◌<◌, ◌∙◌, ℕ, List, arith}
use Rattle.base_text.specs.store.Store.{SameCounts}

pub same_both : (c1 c2 c3 : List ℕ → ℕ) → SameCounts c1 c2 → SameCounts c2 c3 → SameCounts c1 c3
same_both c1 c2 c3 same more = λ name. more name ∙ same name

-- where no count rose in a call, none is greater
pub not_more : {X : Type 0} (a b : ℕ) → b ≡ a → a < b → X
not_more a b same more = absurd (omega arith)
