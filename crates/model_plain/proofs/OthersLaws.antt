-- The trees of the others, one terminal more.
use Rattle.std.proofs.Common.{◌≡◌, ◌≢◌, ◌+◌, ℕ, suc, true, false, arith}
use Rattle.std.specs.Prelude.{◌==◌, Bool, Option, Some, None, List, IfOk, Result, Ok, Err, refl}
use Rattle.std.specs.Prelude.{option_map, unwrap_or}
use Rattle.std.proofs.lemmas.Bool.{eq-eqb, eqb-true}
use Rattle.model_logic.specs.Received.{joined, over_others}
use Rattle.model_logic.specs.Tree.{Tree, Const}
use Rattle.model_plain.specs.declared.formula.Formula.{Formula}
use Rattle.model_plain.specs.declared.formula.Formula.TheVariants as formula
use Rattle.model_plain.specs.Formulas.{tree_of}

module _ (op : Tree → Tree → Tree) (tree : ℕ → Tree) (k n : ℕ) (before : Option Tree) where
  -- the terminal itself is left out
  pub others_itself : n ≡ k → before ≡ over_others op tree k n
      → before ≡ over_others op tree k (n + 1)
  others_itself e is =
      let up : n + 1 ≡ suc n = omega arith in
      rw up (rw (eq-eqb n k e) is)

  -- another is joined on the right
  pub others_one_more : (x : Tree) → n ≢ k → before ≡ over_others op tree k n
      → x ≡ joined op before (tree n) → Some x ≡ over_others op tree k (n + 1)
  others_one_more x ne is made =
      let up : n + 1 ≡ suc n = omega arith in
      rw up (by (n == k) refl)
    where
      by : (b : Bool) → (n == k) ≡ b → Some x ≡ over_others op tree k (suc n)
      by true same = absurd (ne (eqb-true n k same))
      by false other = rw other (rw made (rw is refl))

-- what holds of a value, if it is the result, holds if there is a result
pub of_each : {T E : Type 0} {P : T → Type 0} (r : Result T E) → ((x : T) → r ≡ Ok x → P x)
    → IfOk r P
of_each (Ok x) each = each x refl
of_each (Err e) each = tt

-- a tree if there is one, or none
pub tree_or_none : (parts : List Tree) (o : Option Formula)
    → tree_of parts (unwrap_or o (formula.Const false))
    ≡ unwrap_or (option_map (tree_of parts) o) (Const false)
tree_or_none parts (Some f) = refl
tree_or_none parts None = refl
