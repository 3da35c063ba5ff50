-- A formula names what its tree names.
use Rattle.std.specs.Prelude.{◌≡◌, false, Result, Ok, Err, IfOk}
use Rattle.std.proofs.Common.{refl, sym, subst}
use Rattle.model_line.specs.declared.line.Line.{Line}
use Rattle.model_logic.specs.declared.time.Time.{Time}
use Rattle.model_logic.specs.{Tree.Tree, Tree.Const, Tree.Timer, Names.Names, Names.HasTime}
use Rattle.model_plain.specs.{declared.formula.Formula.Formula, Formulas.own_tree}

pub named_as : {E : Type 0} (line : Line) (tree : Tree) (r : Result Formula E) → Names line tree
    → IfOk r (λ f. own_tree f ≡ tree) → IfOk r (λ f. Names line (own_tree f))
named_as line tree (Ok f) names same = subst (Names line) (sym same) names
named_as line tree (Err e) names same = tt

-- and so does a timed one
pub named_timed : {E : Type 0} (line : Line) (x r : Result Formula E) (p d : Time) → HasTime line p
    → HasTime line d → IfOk x (λ f. Names line (own_tree f))
    → ((t : Tree) → IfOk x (λ f. own_tree f ≡ t) → IfOk r (λ f. own_tree f ≡ Timer t p d))
    → IfOk r (λ f. Names line (own_tree f))
unfolding Names
named_timed line (Ok f) r p d hp hd names timed =
    named_as line (Timer (own_tree f) p d) r (names, (hp, hd)) (timed (own_tree f) refl)
named_timed line (Err e) r p d hp hd names timed =
    named_as line (Timer (Const false) p d) r (tt, (hp, hd)) (timed (Const false) tt)
