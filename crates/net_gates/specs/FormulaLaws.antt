-- A gate stands for its kind over the trees of its arguments, and gates that follow leave them.
use Rattle.std.proofs.Common.{◌≡◌, ℕ, zero, suc, ◌+◌, ◌<◌, false, List, [], ◌∷◌, ◌++◌, length}
use Rattle.std.proofs.Common.{Some, refl, sym, ap, ◌∙◌, subst, arith, length-append}
use Rattle.std.proofs.lemmas.List.{get_or_append_left}
use Rattle.std.proofs.Math.Seq.{get_or-append_seam}
use Rattle.std.specs.Prelude.{slice_get}
use Rattle.model_logic.specs.Tree.{Tree}
use Rattle.model_logic.specs.Tree as tree
use Rattle.net_gates.specs.declared.gate.Gate.TheVariants.{Const, Seen, Loss, Raw, Not, And, Or}
use Rattle.net_gates.specs.declared.gate.Gate.TheVariants.{Timer, Seal}
use Rattle.net_gates.specs.declared.gate.Gate.{Gate}
use Rattle.net_gates.specs.Gates.{HasArguments, AreGates}
use Rattle.net_gates.specs.Formulas.{tree_at, tree_with, formulas_after, formula_of, kind_over}

-- the trees so far stay under their numbers
pub after_keeps : (gs : List Gate) (ts : List Tree) (i : ℕ) → i < length ts
    → tree_at (formulas_after ts gs) i ≡ tree_at ts i
after_keeps [] ts i lt = refl
after_keeps (g ∷ gs) ts i lt =
    let last : List Tree = tree_with (tree_at ts) g ∷ [] in
    let within : i < length (ts ++ last) = omega (arith, length-append ts last) in
    after_keeps gs (ts ++ last) i within ∙ get_or_append_left ts last (tree.Const false) i lt

-- a kind over trees that agree at its arguments
pub tree_with-same : (g : Gate) (n : ℕ) (f h : ℕ → Tree) → HasArguments n g
    → ((a : ℕ) → a < n → f a ≡ h a) → tree_with f g ≡ tree_with h g
tree_with-same (Const v) n f h has e = refl
tree_with-same (Seen p) n f h has e = refl
tree_with-same (Loss c) n f h has e = refl
tree_with-same (Raw c) n f h has e = refl
tree_with-same (Not a) n f h has e = ap tree.Not (e a.0 has)
tree_with-same (And a b) n f h has e =
    ap (λ x. tree.And x (f b.0)) (e a.0 has.0) ∙ ap (λ x. tree.And (h a.0) x) (e b.0 has.1)
tree_with-same (Or a b) n f h has e =
    ap (λ x. tree.Or x (f b.0)) (e a.0 has.0) ∙ ap (λ x. tree.Or (h a.0) x) (e b.0 has.1)
tree_with-same (Timer a p d) n f h has e = ap (λ x. tree.Timer x p d) (e a.0 has)
tree_with-same (Seal a b) n f h has e =
    ap (λ x. tree.Seal x (f b.0)) (e a.0 has.0) ∙ ap (λ x. tree.Seal (h a.0) x) (e b.0 has.1)

gate_formula : (gs : List Gate) (ts : List Tree) (i : ℕ) (g : Gate) → slice_get gs i ≡ Some g
    → HasArguments (length ts + i) g
    → tree_at (formulas_after ts gs) (length ts + i) ≡ tree_with (tree_at (formulas_after ts gs)) g
gate_formula [] ts i g e h = absurd (cc)
gate_formula (k ∷ gs) ts zero g e h =
    let same : k ≡ g = cc in
    let last : List Tree = tree_with (tree_at ts) k ∷ [] in
    let all : List Tree = formulas_after (ts ++ last) gs in
    let n : length ts + zero ≡ length ts = omega arith in
    let longer : length (ts ++ last) ≡ length ts + 1 = length-append ts last in
    let args : HasArguments (length ts) g = subst (λ m. HasArguments m g) n h in
    let here : tree_at all (length ts) ≡ tree_with (tree_at ts) k =
    after_keeps gs (ts ++ last) (length ts) (omega arith)
    ∙ get_or-append_seam ts (tree_with (tree_at ts) k) [] (tree.Const false) in
    let old : (a : ℕ) → a < length ts → tree_at ts a ≡ tree_at all a = λ a lt.
    sym (get_or_append_left ts last (tree.Const false) a lt)
    ∙ sym (after_keeps gs (ts ++ last) a (omega arith)) in
    ap (λ m. tree_at all m) n ∙ here ∙ ap (tree_with (tree_at ts)) same
    ∙ tree_with-same g (length ts) (tree_at ts) (tree_at all) args old
gate_formula (k ∷ gs) ts (suc i) g e h =
    let more : List Tree = ts ++ tree_with (tree_at ts) k ∷ [] in
    let n : length more + i ≡ length ts + suc i =
    omega (arith, length-append ts (tree_with (tree_at ts) k ∷ [])) in
    ap (λ m. tree_at (formulas_after more gs) m) (sym n)
    ∙ gate_formula gs more i g e (subst (λ m. HasArguments m g) (sym n) h)

-- a gate stands for its kind over the trees of its arguments
pub formula_of-gate : (gates : List Gate) (i : ℕ) (g : Gate) → AreGates gates
    → slice_get gates i ≡ Some g → formula_of gates i ≡ kind_over gates g
unfolding formula_of
formula_of-gate gates i g net e =
    let n : 0 + i ≡ i = omega arith in
    ap (λ m. tree_at (formulas_after [] gates) m) (sym n)
    ∙ gate_formula gates [] i g e (subst (λ m. HasArguments m g) (sym n) (net.earlier i g e))
