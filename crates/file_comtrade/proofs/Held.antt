-- One element more at the end of a list.
use Rattle.std.proofs.Common.{◌≡◌, ◌<◌, ◌+◌, ◌++◌, ℕ, List, [], ◌∷◌, length, slice_index, subst, sym}
use Rattle.std.proofs.Common.{arith}
use Rattle.std.proofs.lemmas.List.{get_or_append_left, get_or_push}
use borrow.Author.Count.{below_more}

-- what holds at each place below holds with the element that stands at the next
pub each_more : (P : ℕ → ℕ → Type 0) (at : List ℕ) (t x : ℕ) → length at ≡ t
    → ((j : ℕ) → j < t → P j (slice_index at j)) → P t x
    → (j : ℕ) → j < t + 1 → P j (slice_index (at ++ x ∷ []) j)
each_more P at t x long each here =
    below_more (λ j. P j (slice_index (at ++ x ∷ []) j)) t
    (λ j below. subst (P j) (sym (get_or_append_left at (x ∷ []) 0 j (omega arith))) (each j below))
    (subst (P t) (sym (get_or_push at x 0 t long)) here)
