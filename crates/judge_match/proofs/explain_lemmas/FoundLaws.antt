-- What was found over a side of a part, as an option of its nodes.
use Rattle.std.proofs.Common.{◌≡◌, ℕ, List, Option, None, Some, Vec, subst, sym}
use Rattle.std.specs.Prelude.{IfSome}
use Rattle.std.specs.declared.alloc.Global.{Global}
use Rattle.model_history.specs.Rails.{Ends}
use Rattle.model_line.specs.{declared.line.Line.Line, declared.script.Script.Script}
use Rattle.model_logic.specs.Histories.{History}
use Rattle.judge_match.specs.declared.explain.tree.PartNode.{PartNode}
use Rattle.judge_match.specs.declared.explain.search.Found.{Found}
use Rattle.judge_match.specs.declared.explain.search.Found.TheVariants as found
use Rattle.judge_match.specs.explain.Found.{AreNodesOver, IsFound}

pub nodes_found : (line : Line) (script : Script) (within : ℕ) (recorded : History)
    (side : List Ends) (nodes : Vec PartNode Global) (told : Found)
    (seen : Option (Vec PartNode Global)) → told ≡ found.Excluded nodes → seen ≡ Some nodes
    → IsFound line script within recorded side told
    → IfSome seen (λ all. AreNodesOver line script within recorded side all.items)
nodes_found line script within recorded side nodes told seen is some h =
    subst (λ (o : Option (Vec PartNode Global)).
    IfSome o (λ all. AreNodesOver line script within recorded side all.items)) (sym some)
    (subst (IsFound line script within recorded side) is h)

pub open_found : {X : Type 0} (P : X → Type 0) (seen : Option X) → seen ≡ None → IfSome seen P
open_found {X} P seen none = subst (λ (o : Option X). IfSome o P) (sym none) tt
