-- Gates that are added leave the trees of the old ones.
use Rattle.std.proofs.Common.{◌≡◌, ℕ, zero, suc, ◌+◌, ◌<◌, ◌≤◌, List, [], ◌∷◌, ◌++◌, length}
use Rattle.std.proofs.Common.{take, drop, refl, sym, ap, ◌∙◌, arith, length-append}
use Rattle.std.proofs.lemmas.List.{take-append-drop}
use Rattle.std.proofs.lemmas.Option.{slice_get_within}
use Rattle.std.specs.Prelude.{slice_get}
use Rattle.model_logic.specs.Tree.{Tree}
use Rattle.net_gates.specs.declared.gate.Gate.{Gate}
use Rattle.net_gates.specs.Gates.{HasArguments, AreGates}
use Rattle.net_gates.specs.Formulas.{tree_at, tree_with, formulas_after, formula_of, kind_over}
use Rattle.net_gates.specs.Formulas.{Stands}
use Rattle.net_gates.specs.FormulaLaws.{after_keeps, tree_with-same, formula_of-gate}
use Rattle.net_compile.specs.Growing.{Grows, Adds}

formulas_after-append : (gs hs : List Gate) (ts : List Tree)
    → formulas_after ts (gs ++ hs) ≡ formulas_after (formulas_after ts gs) hs
formulas_after-append [] hs ts = refl
formulas_after-append (g ∷ gs) hs ts = formulas_after-append gs hs (ts ++ tree_with (tree_at ts) g ∷ [])

length-formulas_after : (gs : List Gate) (ts : List Tree)
    → length (formulas_after ts gs) ≡ length ts + length gs
length-formulas_after [] ts = omega arith
length-formulas_after (g ∷ gs) ts =
    let more : List Tree = ts ++ tree_with (tree_at ts) g ∷ [] in
    omega (arith, length-formulas_after gs more, length-append ts (tree_with (tree_at ts) g ∷ []))

-- where the old gates are the first of the new ones, an old gate stands for its old tree
formula_of-kept : (old new : List Gate) (i : ℕ) → take (length old) new ≡ old → i < length old
    → formula_of new i ≡ formula_of old i
unfolding formula_of
formula_of-kept old new i kept lt =
    let rest : List Gate = drop (length old) new in
    let whole : new ≡ old ++ rest =
    sym (take-append-drop (length old) new) ∙ ap (λ l. l ++ rest) kept in
    let len : length (formulas_after [] old) ≡ 0 + length old = length-formulas_after old [] in
    ap (λ l. tree_at (formulas_after [] l) i) whole
    ∙ ap (λ l. tree_at l i) (formulas_after-append old rest [])
    ∙ after_keeps rest (formulas_after [] old) i (omega arith)

-- a gate that is added stands for its kind over the trees of its arguments
pub stands : (old new : List Gate) (g : Gate) (id : ℕ) → AreGates new → HasArguments (length old) g
    → Grows old new → Adds old new g id → Stands new id (kind_over old g)
stands old new g id net args grows adds = record {
  within = slice_get_within new id g adds.at;
  is = formula_of-gate new id g net adds.at
      ∙ tree_with-same g (length old) (formula_of new) (formula_of old) args grows.same;
}

slice_get-take : (xs : List Gate) (n i : ℕ) → i < n → slice_get (take n xs) i ≡ slice_get xs i
slice_get-take [] zero i lt = absurd (omega arith)
slice_get-take [] (suc n) i lt = refl
slice_get-take (x ∷ xs) zero i lt = absurd (omega arith)
slice_get-take (x ∷ xs) (suc n) zero lt = refl
slice_get-take (x ∷ xs) (suc n) (suc i) lt = slice_get-take xs n i (omega arith)

-- a longer list of gates that begins with the old ones
pub grows_from : (old new : List Gate) → take (length old) new ≡ old
    → length old ≤ length new → Grows old new
grows_from old new kept longer = record {
  kept = λ i lt. sym (slice_get-take new (length old) i lt) ∙ ap (λ l. slice_get l i) kept;
  longer = longer;
  same = λ i lt. formula_of-kept old new i kept lt;
}
