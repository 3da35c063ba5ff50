-- What a node's line can say over the box of a view.
use Rattle.std.proofs.Common.{◌≡◌, ◌≢◌, ◌<◌, ◌^◌, ℕ, List, Bool, false, refl, subst}
use Rattle.std.specs.Prelude.{codes}
use Rattle.std.specs.Bool.{Decides}
use Rattle.model_history.specs.Rails.{Ends}
use Rattle.model_line.specs.declared.line.Line.{Line}
use Rattle.model_line.specs.NamesByNumber.{parameter_name}
use Rattle.model_logic.specs.Choice.{Box}
use Rattle.model_settle.specs.{Assumed.Assumption, Assumed.HasSpan, Parts.CanPart}
use Rattle.judge_cases.specs.AssumedAt.{span_at}
use Rattle.judge_cases.specs.declared.node.CaseNode.{CaseNode}
use Rattle.judge_cases.specs.declared.node.CaseNode.TheVariants as node
use Rattle.judge_cases.specs.{declared.view.View.View, Views.Views, Views.IsView, Views.view_box}
use Rattle.cert_settle.specs.Grammar.{MayStand, node_text, part_line, span_line, Root}
use Rattle.cert_settle.specs.{Grammar.name_of_terminal, Reading.IsOverBox}

-- ---- views of boxes

-- a view is over its own box
pub own_box : (line : Line) (view : View) → IsView line view
    → IsOverBox line (view_box line view) view
own_box line view is = record {
  is = is;
  same = record { numbers = λ i lt. refl; delays = λ c t lt early. refl };
}

pub as_views : (line : Line) (box : Box) (view : View) → IsOverBox line box view
    → Views line box view.assumed.items view
as_views line box view over = record { is = over.is; same = over.same; assumes = refl }

pub over_box : (line : Line) (box : Box) (assumed : List Assumption) (view : View)
    → Views line box assumed view → IsOverBox line box view
over_box line box assumed view views = record { is = views.is; same = views.same }

-- boxes with the same interval of a parameter can be parted there alike
pub parted_alike : (line : Line) (a b : Box) (param mid : ℕ) → a.ends param ≡ b.ends param
    → CanPart line a param mid → CanPart line b param mid
parted_alike line a b param mid same can = record {
  exists = can.exists;
  number = can.number;
  above = subst (λ (e : Ends). e.least < mid) same can.above;
  below = subst (λ (e : Ends). mid < e.greatest) same can.below;
}

-- ---- nodes

-- a line that no node has: neither `yes` nor `undecided`, and no part and no span that can be told
pub no_node : (line : Line) (room : ℕ) (root : Root) (bytes : List ℕ) (a b : Bool) → a ≡ false
    → b ≡ false → Decides a (bytes ≡ codes "yes") → Decides b (bytes ≡ codes "undecided")
    → ((param mid : ℕ) → 0 < root.depth → 0 < room → mid < 2 ^ 32
    → CanPart line root.box param mid → bytes ≢ part_line (parameter_name line param) mid)
    → ((terminal from to : ℕ) → 0 < root.depth → 0 < room
    → HasSpan line (span_at terminal from to)
    → bytes ≢ span_line (name_of_terminal line terminal) from to)
    → (n : CaseNode) → MayStand line room root n → bytes ≢ node_text line n
no_node line room root bytes a b x y da db parts spans node.Yes may is = (let t = da.1 is in cc)
no_node line room root bytes a b x y da db parts spans node.Undecided may is =
    (let t = db.1 is in cc)
no_node line room root bytes a b x y da db parts spans (node.Parted param mid) may is =
    parts param mid may.left.deep may.left.many may.number may.can is
no_node line room root bytes a b x y da db parts spans (node.Wanted terminal from to) may is =
    spans terminal from to may.left.deep may.left.many may.can is

-- what may stand over the box of a view may stand over each box that it is over
pub may_in_box : (line : Line) (view : View) (room depth : ℕ) (box : Box) (n : CaseNode)
    → IsOverBox line box view
    → MayStand line room (record { depth = depth; box = view_box line view }) n
    → MayStand line room (record { depth = depth; box = box }) n
may_in_box line view room depth box node.Yes over may = tt
may_in_box line view room depth box node.Undecided over may = tt
may_in_box line view room depth box (node.Parted param mid) over may =
    record {
      left = may.left;
      number = may.number;
      can = parted_alike line (view_box line view) box param mid
          (over.same.numbers param may.can.exists) may.can;
    }
may_in_box line view room depth box (node.Wanted terminal from to) over may =
    record { left = may.left; can = may.can }
