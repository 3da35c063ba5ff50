use Rattle.std.proofs.Common.{◌≡◌, ℕ, Bool, true, false, cond, Option, None, Some, ap, sym, ◌∙◌, inl, inr, arith}
use mathlib.Core.Logic.{◌⊎◌}
use Rattle.model_history.specs.Rails.{Ends}
use Rattle.model_line.specs.{declared.line.Line.Line, Parameters.declared_ends}
use Rattle.judge_margins.specs.{declared.map.axis.Axis.Axis, declared.map.axis.Axes.Axes}
use Rattle.judge_margins.specs.map.Axes.{cell_ends, ends_along, ends_up, least_at}
use Rattle.judge_margins.specs.map.Axes.{moved, moves}
use Rattle.judge_margins.proofs.map.spans.ends_in_cell.Goals.{in-Some+else-moves, in_default}
use Rattle.judge_margins.proofs.map.spans.ends_in_cell.Goals as goal

-- what moves along an axis begins at its number, all else is as it was
along : (line : Line) (axis : Axis) (n : ℕ) (ends : ℕ → Ends) (param : ℕ) (b : Bool)
    → moves axis param ≡ b
    → ends_along line axis n ends param ≡ cond b (moved line param (least_at axis n)) (ends param)
along line axis n ends param b is =
    ap (λ (x : Bool). cond x (moved line param (least_at axis n)) (ends param)) is

-- an interval that the second axis moves or not, if there is one
by_second : (line : Line) (y : Option Axis) (axis : Axis) (row : ℕ) (ends : ℕ → Ends) (param : ℕ)
    (b : Bool) → y ≡ Some axis → moves axis param ≡ b
    → ends_up line y row ends param ≡ cond b (moved line param (least_at axis row)) (ends param)
by_second line y axis row ends param b is moving =
    ap (λ (o : Option Axis). ends_up line o row ends param) is
    ∙ along line axis row ends param b moving

-- an interval of a cell that the first axis moves or not, and the second does not
abbrev IsStill : Option Axis → ℕ → Type 0
IsStill y param = (y ≡ None) ⊎ ((axis : Axis) × (y ≡ Some axis) × (moves axis param ≡ false))

by_first : (line : Line) (axes : Axes) (column row param : ℕ) (b : Bool) → IsStill axes.y param
    → moves axes.x param ≡ b → cell_ends line axes column row param
    ≡ cond b (moved line param (least_at axes.x column)) (declared_ends line param)
by_first line axes column row param b (inl none) moving =
    let ends = ends_along line axes.x column (declared_ends line) in
    ap (λ (o : Option Axis). ends_up line o row ends param) none
    ∙ along line axes.x column (declared_ends line) param b moving
by_first line axes column row param b (inr (axis, is, still)) moving =
    let ends = ends_along line axes.x column (declared_ends line) in
    by_second line axes.y axis row ends param false is still
    ∙ along line axes.x column (declared_ends line) param b moving

pub returns-then-moves : goal.returns-then-moves
returns-then-moves c =
    let is = by_second c.args.line.now c.args.axes.now.y c.in-Some.y c.args.row
    (ends_along c.args.line.now c.args.axes.now.x c.args.column (declared_ends c.args.line.now))
    c.args.param true c.in-Some.is (sym c.moves.ensures ∙ c.if-moves.true) in
    record {
      least = c.moved_ends.ensures.least ∙ sym (ap (λ (e : Ends). e.least) is);
      greatest = c.moved_ends.ensures.greatest ∙ sym (ap (λ (e : Ends). e.greatest) is);
      ordered = c.moved_ends.ensures.ordered;
      limit = c.moved_ends.ensures.limit;
    }

pub returns-then-moves-2 : goal.returns-then-moves-2
returns-then-moves-2 c =
    let there = c.moved_ends-then-moves-2.ensures in
    let is = by_first c.args.line.now c.args.axes.now c.args.column c.args.row c.args.param true
    (elim c.match-axes.branch [
      | in-Some+else-moves w ↦ inr (w.in-Some.y, w.in-Some.is, sym w.moves.ensures ∙ w.if-moves.false)
      | in_default w ↦ inl w.in_default.is
    ]) (sym c.moves-2.ensures ∙ c.if-moves-2.true) in
    record {
      least = there.least ∙ sym (ap (λ (e : Ends). e.least) is);
      greatest = there.greatest ∙ sym (ap (λ (e : Ends). e.greatest) is);
      ordered = there.ordered;
      limit = there.limit;
    }

pub returns : goal.returns
returns c =
    let is = by_first c.args.line.now c.args.axes.now c.args.column c.args.row c.args.param false
    (elim c.match-axes.branch [
      | in-Some+else-moves w ↦ inr (w.in-Some.y, w.in-Some.is, sym w.moves.ensures ∙ w.if-moves.false)
      | in_default w ↦ inl w.in_default.is
    ]) (sym c.moves-2.ensures ∙ c.if-moves-2.false) in
    record {
      least = c.least.ensures.number ∙ sym (ap (λ (e : Ends). e.least) is);
      greatest = c.greatest.ensures.number ∙ sym (ap (λ (e : Ends). e.greatest) is);
      ordered = omega (arith, c.least.ensures.number, c.greatest.ensures.ordered);
      limit = c.greatest.ensures.small;
    }
