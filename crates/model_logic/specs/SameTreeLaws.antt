-- The test of trees is equality.
use Rattle.std.proofs.Common.{◌≡◌, ◌&&◌, Bool, true, false, refl, ◌∙◌, ap, rules}
use Rattle.std.proofs.Common.{eq-eqb, eqb-true}
use Rattle.std.proofs.lemmas.Bool.{and_parts, and_from}
use Rattle.model_line.specs.{declared.script.Place.Place, Seen.same_place}
use Rattle.model_logic.specs.declared.time.Time.{Time}
use Rattle.model_logic.specs.Tree.{Tree, Const, Seen, Loss, Raw, Not, And, Or, Timer, Seal}
use Rattle.model_logic.specs.SameTree.{same_value, same_time, same_tree}

value-same : (v w : Bool) → same_value v w ≡ true → v ≡ w
value-same true true e = refl
value-same true false e = absurd (cc)
value-same false true e = absurd (cc)
value-same false false e = refl

value-itself : (v : Bool) → same_value v v ≡ true
value-itself true = refl
value-itself false = refl

pub place-same : (p q : Place) → same_place p q ≡ true → p ≡ q
place-same p q e = search rules

pub place-itself : (p : Place) → same_place p p ≡ true
place-itself p = search rules

time-same : (p q : Time) → same_time p q ≡ true → p ≡ q
time-same p q e = search rules

time-itself : (p : Time) → same_time p p ≡ true
time-itself p = search rules

both-same : (op : Tree → Tree → Tree) (x y v w : Tree) → x ≡ v → y ≡ w → op x y ≡ op v w
both-same op x y v w e f = ap (λ a. op a y) e ∙ ap (op v) f

pub tree-same : (x y : Tree) → same_tree x y ≡ true → x ≡ y
unfolding same_tree
tree-same (Const v) (Const w) e = ap Const (value-same v w e)
tree-same (Seen p) (Seen q) e = ap Seen (place-same p q e)
tree-same (Loss c) (Loss d) e = ap Loss (eqb-true c d e)
tree-same (Raw c) (Raw d) e = ap Raw (eqb-true c d e)
tree-same (Not x) (Not y) e = ap Not (tree-same x y e)
tree-same (And x y) (And v w) e =
    let each = and_parts (same_tree x v) (same_tree y w) e in
    both-same And x y v w (tree-same x v each.0) (tree-same y w each.1)
tree-same (Or x y) (Or v w) e =
    let each = and_parts (same_tree x v) (same_tree y w) e in
    both-same Or x y v w (tree-same x v each.0) (tree-same y w each.1)
tree-same (Timer x p d) (Timer y q f) e =
    let each = and_parts (same_tree x y) (same_time p q && same_time d f) e in
    let times = and_parts (same_time p q) (same_time d f) each.1 in
    ap (λ a. Timer a p d) (tree-same x y each.0) ∙ ap (λ a. Timer y a d) (time-same p q times.0)
    ∙ ap (Timer y q) (time-same d f times.1)
tree-same (Seal x y) (Seal v w) e =
    let each = and_parts (same_tree x v) (same_tree y w) e in
    both-same Seal x y v w (tree-same x v each.0) (tree-same y w each.1)
tree-same x y e = absurd (cc)

pub tree-itself : (x : Tree) → same_tree x x ≡ true
unfolding same_tree
tree-itself (Const v) = value-itself v
tree-itself (Seen p) = place-itself p
tree-itself (Loss c) = eq-eqb c c refl
tree-itself (Raw c) = eq-eqb c c refl
tree-itself (Not x) = tree-itself x
tree-itself (And x y) = and_from (same_tree x x) (same_tree y y) (tree-itself x) (tree-itself y)
tree-itself (Or x y) = and_from (same_tree x x) (same_tree y y) (tree-itself x) (tree-itself y)
tree-itself (Timer x p d) =
    and_from (same_tree x x) (same_time p p && same_time d d) (tree-itself x)
    (and_from (same_time p p) (same_time d d) (time-itself p) (time-itself d))
tree-itself (Seal x y) = and_from (same_tree x x) (same_tree y y) (tree-itself x) (tree-itself y)
