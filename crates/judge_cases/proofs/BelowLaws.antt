-- The first views, one view after another; what is left of a list.
use Rattle.std.proofs.Common.{◌≡◌, ◌≢◌, ◌<◌, ◌≤◌, ◌+◌, ℕ, zero, suc, List, [], ◌∷◌, None, length}
use Rattle.std.proofs.Common.{refl, sym, ◌∙◌, arith, ⊎_elim, drop}
use Rattle.std.proofs.lemmas.Bool.{cases_lt}
use Rattle.std.proofs.lemmas.Bool.Decides.{nat_tests}
use Rattle.std.specs.Prelude.{get_or, slice_get}
use Rattle.std.proofs.lemmas.Option.{slice_get_past}
use Rattle.judge_cases.specs.declared.view.View.{View}
use Rattle.judge_cases.specs.Puts.{view_below}

pub drop_at : {X : Type 0} (xs : List X) (i : ℕ) (d : X) → i < length xs
    → drop i xs ≡ get_or xs i d ∷ drop (suc i) xs
drop_at [] i d lt = absurd (omega arith)
drop_at (x ∷ xs) zero d lt = refl
drop_at (x ∷ xs) (suc i) d lt = drop_at xs i d (omega arith)

module _ (views : List View) where
  pub below_none : (n k : ℕ) → n ≤ k → view_below views n k ≡ None
  below_none n k le = grind (arith, nat_tests)

  pub below_here : (n k : ℕ) → k < n → view_below views n k ≡ slice_get views k
  below_here n k lt = grind (arith, nat_tests)

  pub below_other : (n k : ℕ) → k ≢ n → view_below views (n + 1) k ≡ view_below views n k
  below_other n k ne =
      ⊎_elim
      (λ lt. below_here (n + 1) k (omega arith) ∙ sym (below_here n k lt))
      (λ le. below_none (n + 1) k (omega (arith, le, ne)) ∙ sym (below_none n k le))
      (cases_lt k n)

  -- past the last view there is none
  pub below_all : (k : ℕ) → view_below views (length views) k ≡ slice_get views k
  below_all k =
      ⊎_elim (λ lt. below_here (length views) k lt)
      (λ le. below_none (length views) k le ∙ sym (slice_get_past views k le))
      (cases_lt k (length views))
