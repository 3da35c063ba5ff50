-- Lists with one element for each of another list.
use Rattle.std.proofs.Common.{◌≡◌, ◌≤◌, ◌+◌, ℕ, List, [], ◌∷◌, ◌++◌, Some, length, length-append}
use Rattle.std.proofs.Common.{subst, sym, ap, ◌∙◌, ⊎_elim, arith}
use Rattle.std.specs.Prelude.{slice_get}
use Rattle.model_history.specs.ListLaws.{at_push}
use Rattle.judge_margins.specs.margins.Each.{OneForEach}

module _ {X Y : Type 0} (said : ℕ → X → Y → Type 0) (xs : List X) where
  -- none yet
  pub none_yet : (ys : List Y) → ys ≡ [] → OneForEach said xs ys 0
  none_yet ys is = record {
    count = ap length is;
    each = λ i x y at there.
        let none : slice_get [] i ≡ Some y =
        subst (λ (l : List Y). slice_get l i ≡ Some y) is there in absurd (cc);
  }

  -- one more
  pub one_more : (ys new : List Y) (y : Y) (n : ℕ) → OneForEach said xs ys n
      → new ≡ ys ++ y ∷ [] → ((x : X) → slice_get xs n ≡ Some x → said n x y)
      → OneForEach said xs new (n + 1)
  one_more ys new y n before is here = record {
    count = ap length is ∙ length-append ys (y ∷ [])
        ∙ ap (λ (m : ℕ). m + 1) before.count;
    each = λ i x z at there.
        ⊎_elim (λ early. before.each i x z at early)
        (λ last.
        let place : i ≡ n = last.0 ∙ before.count in
        subst (λ (w : Y). said i x w) (sym last.1)
        (subst (λ (j : ℕ). said j x y) (sym place)
        (here x (subst (λ (j : ℕ). slice_get xs j ≡ Some x) place at))))
        (at_push ys y z i (subst (λ (l : List Y). slice_get l i ≡ Some z) is there));
  }

  -- and one for each of all
  pub all_of : (ys : List Y) (n : ℕ) → OneForEach said xs ys n → length xs ≤ n → n ≤ length xs
      → OneForEach said xs ys (length xs)
  all_of ys n is low high =
      let same : n ≡ length xs = omega arith in
      subst (λ (m : ℕ). OneForEach said xs ys m) same is
