-- What the words ask for, told of the axes that they come to.
use Rattle.std.proofs.Common.{◌≡◌, List, ℕ, Option, None, Some, refl, ap, sym, ◌∙◌}
use Rattle.model_line.specs.declared.line.Line.{Line}
use Rattle.judge_margins.specs.{declared.map.axis.Axis.Axis, declared.map.axis.Axes.Axes}
use Rattle.judge_margins.specs.map.Faults as map
use Rattle.judge_margins.specs.map.Axes.{count_along, rows_of}
use Rattle.call_work.specs.map.Asked.{AreAxesOf, Both, IsAxisOf, IsSecondOf, Moved, count_of, fault_of}
use Rattle.call_work.specs.map.Asked.{first_among, moved_fault, rows_in, second_fault, twice_by, twice_in}

same_axis : (line : Line) (moved : Moved) (axis : Axis) → IsAxisOf moved axis
    → moved_fault line moved ≡ map.axis_fault line axis
same_axis line moved axis is = rw (is.params, is.first, is.last, is.step) refl

same_count : (moved : Moved) (axis : Axis) → IsAxisOf moved axis
    → count_of moved.steps ≡ count_along axis
same_count moved axis is = rw (is.first, is.last, is.step) refl

same_second : (line : Line) (moved : Option Moved) (axis : Option Axis) → IsSecondOf moved axis
    → second_fault line moved ≡ map.second_fault line axis
same_second line None None is = refl
same_second line None (Some axis) is = absurd is
same_second line (Some moved) None is = absurd is
same_second line (Some moved) (Some axis) is = same_axis line moved axis is

same_rows : (moved : Option Moved) (axis : Option Axis) → IsSecondOf moved axis
    → rows_in moved ≡ rows_of axis
same_rows None None is = refl
same_rows None (Some axis) is = absurd is
same_rows (Some moved) None is = absurd is
same_rows (Some moved) (Some axis) is = same_count moved axis is

pub same_fault : (line : Line) (both : Both) (axes : Axes) → AreAxesOf both axes
    → fault_of line both ≡ map.map_fault line axes
same_fault line both axes are =
    rw (
      same_axis line both.x axes.x are.x,
      same_second line both.y axes.y are.y,
      same_count both.x axes.x are.x,
      same_rows both.y axes.y are.y,
    ) refl

pub same_twice : (params : List ℕ) (moved : Option Moved) (axis : Option Axis)
    → IsSecondOf moved axis → twice_in params moved ≡ twice_by params axis
same_twice params None None is = refl
same_twice params None (Some axis) is = absurd is
same_twice params (Some moved) None is = absurd is
same_twice params (Some moved) (Some axis) is = ap (first_among params) (sym is.params)

pub same_both : (both : Both) (axes : Axes) → AreAxesOf both axes
    → twice_in both.x.params both.y ≡ twice_by axes.x.params.items axes.y
same_both both axes are =
    ap (λ (params : List ℕ). twice_in params both.y) (sym are.x.params)
    ∙ same_twice axes.x.params.items both.y axes.y are.y
