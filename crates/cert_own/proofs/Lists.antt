-- Lists with one element for each number: there is one where each number has an element, and one
-- alone where no number has two.
use Rattle.std.proofs.Common.{◌≡◌, ℕ, zero, suc, ◌<◌, List, [], ◌∷◌, Some, length, refl, sym, ◌∙◌}
use Rattle.std.proofs.Common.{ap, subst, arith}
use Rattle.std.proofs.lemmas.Option.{slice_get_within}
use Rattle.std.specs.Prelude.{slice_get}
use Rattle.judge_verdict.specs.verdict.OneEach.{OneEach}

-- lists with the same elements
pub same_list : {X : Type 0} (xs ys : List X) → length xs ≡ length ys
    → ((k : ℕ) (x y : X) → slice_get xs k ≡ Some x → slice_get ys k ≡ Some y → x ≡ y) → xs ≡ ys
same_list [] [] long each = refl
same_list [] (y ∷ ys) long each = absurd (omega (arith, long))
same_list (x ∷ xs) [] long each = absurd (omega (arith, long))
same_list (x ∷ xs) (y ∷ ys) long each =
    ap (λ z. z ∷ xs) (each zero x y refl refl)
    ∙ ap (λ zs. y ∷ zs) (same_list xs ys (omega (arith, long)) (λ k. each (suc k)))

-- an element in front of those of the numbers from 1 on
each_with : {X : Type 0} (said : ℕ → X → Type 0) (x : X) (xs : List X) → said 0 x
    → ((k : ℕ) (y : X) → slice_get xs k ≡ Some y → said (suc k) y) → (k : ℕ) (y : X)
    → slice_get (x ∷ xs) k ≡ Some y → said k y
each_with said x xs here later zero y at =
    let same : x ≡ y = cc in subst (said 0) same here
each_with said x xs here later (suc k) y at = later k y at

pub one_each_exists : {X : Type 0} (said : ℕ → X → Type 0) (n : ℕ)
    → ((k : ℕ) → k < n → (x : X) × said k x) → (xs : List X) × OneEach said n xs
one_each_exists said zero find = ([], record { count = refl; each = λ k x at. absurd (cc) })
one_each_exists said (suc n) find =
    let (x, here) = find zero (omega arith) in
    let (xs, rest) =
    one_each_exists (λ k. said (suc k)) n (λ k lt. find (suc k) (omega arith)) in (
      x ∷ xs,
      record { count = ap suc rest.count; each = each_with said x xs here rest.each },
    )

pub one_each_once : {X : Type 0} (said other : ℕ → X → Type 0) (n : ℕ) (a b : List X)
    → ((k : ℕ) (x y : X) → k < n → said k x → other k y → x ≡ y)
    → OneEach said n a → OneEach other n b → a ≡ b
one_each_once said other n a b once p q =
    same_list a b (p.count ∙ sym q.count)
    (λ k x y at there.
    let inside = slice_get_within a k x at in
    let count = p.count in
    once k x y (omega arith) (p.each k x at) (q.each k y there))
