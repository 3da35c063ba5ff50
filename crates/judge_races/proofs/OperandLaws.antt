-- A tree is on where all operands of one of its alternatives are.
use Rattle.std.proofs.Common.{◌≡◌, ◌⊎◌, ◌+◌, ◌&&◌, ◌||◌, ℕ, zero, suc, Bool, true, false, List, [], ◌∷◌, ◌++◌, length}
use Rattle.std.proofs.Common.{inl, inr, refl, sym, ◌∙◌, ap, ⊎_elim}
use Rattle.std.specs.Prelude.{Some, IsTrue, ◌↔◌, slice_get, if◌then◌else◌}
use Rattle.model_history.specs.TruthLaws.{or_split, or_left, or_right}
use Rattle.model_history.specs.ListLaws.{at_append, before_append, after_append}
use Rattle.model_logic.specs.Mean.{World, Signals, mean}
use Rattle.model_logic.specs.PairMean.{PairWorld, PairSignals, pair_mean}
use Rattle.model_logic.specs.Tree.{Tree, Const, Seen, Loss, Raw, Not, And, Or, Timer, Seal}
use Rattle.judge_races.specs.Operands.{alternatives, operands, is_raw}
use Rattle.judge_races.specs.Spare.{SomeComplete}

parts : (a b : Bool) → IsTrue (a && b) ↔ (IsTrue a × IsTrue b)
parts true b = (λ on. (refl, on), λ p. p.1)
parts false b = (λ on. (on, absurd (let no : false ≡ true = on in cc)), λ p. p.0)

only_one : (x y : Tree) (i : ℕ) → slice_get (x ∷ []) i ≡ Some y → x ≡ y
only_one x y zero e = let same : x ≡ y = cc in same
only_one x y (suc i) e = absurd (cc)

module _ (f : Tree → Bool) (ors : (x y : Tree) → f (Or x y) ≡ (f x || f y))
    (ands : (x y : Tree) → f (And x y) ≡ (f x && f y)) where
  itself : (x y : Tree) (i : ℕ) → slice_get (x ∷ []) i ≡ Some y → IsTrue (f y) → IsTrue (f x)
  itself x y i at on = ap f (only_one x y i at) ∙ on

  itself_too : (x : Tree) → IsTrue (f x) → (i : ℕ) (y : Tree) → slice_get (x ∷ []) i ≡ Some y
      → IsTrue (f y)
  itself_too x on i y at = ap f (sym (only_one x y i at)) ∙ on

  some_alternative : (x : Tree) → IsTrue (f x)
      → (i : ℕ) × (y : Tree) × (slice_get (alternatives x) i ≡ Some y) × IsTrue (f y)
  some_alternative (Const v) on = (0, Const v, refl, on)
  some_alternative (Seen p) on = (0, Seen p, refl, on)
  some_alternative (Loss c) on = (0, Loss c, refl, on)
  some_alternative (Raw c) on = (0, Raw c, refl, on)
  some_alternative (Not x) on = (0, Not x, refl, on)
  some_alternative (And x y) on = (0, And x y, refl, on)
  some_alternative (Or x y) on =
      ⊎_elim
      (λ first.
      let one = some_alternative x first in
      (one.0, one.1, before_append (alternatives x) (alternatives y) one.0 one.1 one.2, one.3))
      (λ second.
      let one = some_alternative y second in (
        length (alternatives x) + one.0,
        one.1,
        after_append (alternatives x) (alternatives y) one.0 ∙ one.2,
        one.3,
      ))
      (or_split (f x) (f y) (sym (ors x y) ∙ on))
  some_alternative (Timer x p d) on = (0, Timer x p d, refl, on)
  some_alternative (Seal x y) on = (0, Seal x y, refl, on)

  by_alternative : (x : Tree) (i : ℕ) (y : Tree) → slice_get (alternatives x) i ≡ Some y
      → IsTrue (f y) → IsTrue (f x)
  by_alternative (Const v) i y at on = itself (Const v) y i at on
  by_alternative (Seen p) i y at on = itself (Seen p) y i at on
  by_alternative (Loss c) i y at on = itself (Loss c) y i at on
  by_alternative (Raw c) i y at on = itself (Raw c) y i at on
  by_alternative (Not x) i y at on = itself (Not x) y i at on
  by_alternative (And a b) i y at on = itself (And a b) y i at on
  by_alternative (Or a b) i y at on =
      ors a b
      ∙ ⊎_elim (λ first. or_left (f a) (f b) (by_alternative a i y first on))
      (λ h. or_right (f a) (f b) (by_alternative b h.0 y h.2 on))
      (at_append (alternatives a) (alternatives b) i y at)
  by_alternative (Timer x p d) i y at on = itself (Timer x p d) y i at on
  by_alternative (Seal a b) i y at on = itself (Seal a b) y i at on

  -- what is said of each tree of a list
  Each : List Tree → Type 0
  Each trees = (i : ℕ) (y : Tree) → slice_get trees i ≡ Some y → IsTrue (f y)

  each_if : (b : Bool) (xs ys : List Tree) → Each xs → Each ys → Each (if b then xs else ys)
  each_if true xs ys first second = first
  each_if false xs ys first second = second

  each_both : (xs ys : List Tree) → Each xs → Each ys → Each (xs ++ ys)
  unfolding Each
  each_both xs ys first second i y at =
      ⊎_elim (λ a. first i y a) (λ h. second h.0 y h.2) (at_append xs ys i y at)

  by_if : (b : Bool) (xs ys : List Tree) {P : Type 0} → (Each xs → P) → (Each ys → P)
      → Each (if b then xs else ys) → P
  by_if true xs ys first second each = first each
  by_if false xs ys first second each = second each

  one_each : (x : Tree) → IsTrue (f x) → Each (x ∷ [])
  unfolding Each
  one_each x on i y at = itself_too x on i y at

  one_there : (x : Tree) → Each (x ∷ []) → IsTrue (f x)
  unfolding Each
  one_there x each = each 0 x refl

  front : (xs ys : List Tree) → Each (xs ++ ys) → Each xs
  unfolding Each
  front xs ys each i y at = each i y (before_append xs ys i y at)

  back : (xs ys : List Tree) → Each (xs ++ ys) → Each ys
  unfolding Each
  back xs ys each i y at = each (length xs + i) y (after_append xs ys i ∙ at)

  each_operand : (x : Tree) → IsTrue (f x) → Each (operands x)
  each_operand (Const v) on = one_each (Const v) on
  each_operand (Seen p) on = one_each (Seen p) on
  each_operand (Loss c) on = one_each (Loss c) on
  each_operand (Raw c) on = one_each (Raw c) on
  each_operand (Not x) on = one_each (Not x) on
  each_operand (And x y) on =
      let both = sym (ands x y) ∙ on in
      each_if (is_raw x) (And x y ∷ []) (operands x ++ operands y) (one_each (And x y) on)
      (each_both (operands x) (operands y) (each_operand x (((parts (f x) (f y)).0 both).0))
      (each_operand y (((parts (f x) (f y)).0 both).1)))
  each_operand (Or x y) on = one_each (Or x y) on
  each_operand (Timer x p d) on = one_each (Timer x p d) on
  each_operand (Seal x y) on = one_each (Seal x y) on

  by_operands : (x : Tree) → Each (operands x) → IsTrue (f x)
  by_operands (Const v) each = one_there (Const v) each
  by_operands (Seen p) each = one_there (Seen p) each
  by_operands (Loss c) each = one_there (Loss c) each
  by_operands (Raw c) each = one_there (Raw c) each
  by_operands (Not x) each = one_there (Not x) each
  by_operands (And x y) each =
      by_if (is_raw x) (And x y ∷ []) (operands x ++ operands y) {P = IsTrue (f (And x y))}
      (one_there (And x y))
      (λ all.
      ands x y
      ∙ (parts (f x) (f y)).1 (
        by_operands x (front (operands x) (operands y) all),
        by_operands y (back (operands x) (operands y) all),
      ))
      each
  by_operands (Or x y) each = one_there (Or x y) each
  by_operands (Timer x p d) each = one_there (Timer x p d) each
  by_operands (Seal x y) each = one_there (Seal x y) each

  pub on_where_complete : (x : Tree) → IsTrue (f x) ↔ SomeComplete f x
  unfolding Each
  on_where_complete x = (
    λ on.
        let one = some_alternative x on in
        record { at = one.0; one = one.1; there = one.2; all = each_operand one.1 one.3 },
    λ some. by_alternative x some.at some.one some.there (by_operands some.one some.all),
  )

pub mean_complete : (w : World) (keys : Signals) (x : Tree) (t : ℕ)
    → IsTrue (mean w keys x t) ↔ SomeComplete (λ y. mean w keys y t) x
unfolding mean
mean_complete w keys x t = on_where_complete (λ y. mean w keys y t) (λ a b. refl) (λ a b. refl) x

pub may_complete : (w : PairWorld) (keys : PairSignals) (x : Tree) (t : ℕ)
    → IsTrue (pair_mean w keys x t).may ↔ SomeComplete (λ y. (pair_mean w keys y t).may) x
unfolding pair_mean
may_complete w keys x t =
    on_where_complete (λ y. (pair_mean w keys y t).may) (λ a b. refl) (λ a b. refl) x
