-- Without a fault each cell can be placed.
use Rattle.std.proofs.Common.{◌≡◌, ◌≤◌, ◌+◌, ◌-◌, ◌*◌, ℕ, zero, suc, Bool, true, false, cond, List}
use Rattle.std.proofs.Common.{[], ◌∷◌, Option, None, Some, subst, refl, arith}
use Rattle.std.proofs.Math.Nat.{mul-le-mul_right}
use Rattle.std.proofs.lemmas.Bool.{ltb-false}
use Rattle.std.specs.Prelude.{slice_get, nat_lt, ◌==◌, ◌&&◌}
use Rattle.std.specs.Option.{option_or}
use Rattle.model_line.specs.{declared.line.Line.Line, Parameters.is_delay}
use Rattle.judge_margins.specs.{declared.map.axis.Axis.Axis, declared.map.axis.Axes.Axes}
use Rattle.judge_margins.specs.map.Axes.{CanMove, CanMoveBoth, CanMoveSecond, count_along, least_at}
use Rattle.judge_margins.specs.declared.map.fault.MapFault.{MapFault}
use Rattle.judge_margins.specs.map.Faults.{first_fault, axis_fault, second_fault, count_fault}
use Rattle.judge_margins.specs.map.Faults.{map_fault}
use Rattle.judge_margins.specs.map.Placed.{width_of}

passed : {X : Type 0} (a b : Bool) (x y : X) (rest : Option X)
    → cond a (Some x) (cond b (Some y) rest) ≡ None
    → (a ≡ false) × (b ≡ false) × (rest ≡ None)
passed true b x y rest none = absurd (cc)
passed false true x y rest none = absurd (cc)
passed false false x y rest none = (refl, refl, none)

not_first : (b : Bool) (n : ℕ) → (b && n == 0) ≡ false → b ≡ true → 1 ≤ n
not_first b zero apart on = absurd (cc (subst (λ (x : Bool). (x && zero == 0) ≡ false) on apart))
not_first b (suc n) apart on = omega arith

no_fault_in : (line : Line) (first last : ℕ) (params : List ℕ)
    → first_fault line first last params ≡ None
    → (i param : ℕ) → slice_get params i ≡ Some param
    → (last + width_of line param ≤ 4000) × (is_delay line param ≡ true → 1 ≤ first)
no_fault_in line first last [] none i param at = absurd (cc)
no_fault_in line first last (p ∷ ps) none zero param at =
    let here = passed (nat_lt 4000 (last + width_of line p)) (is_delay line p && first == 0) _ _
    (first_fault line first last ps) none in
    let same : p ≡ param = cc in
    subst (λ (q : ℕ). (last + width_of line q ≤ 4000) × (is_delay line q ≡ true → 1 ≤ first)) same (
      ltb-false 4000 (last + width_of line p) here.0,
      λ on. not_first (is_delay line p) first here.1 on,
    )
no_fault_in line first last (p ∷ ps) none (suc i) param at =
    let here = passed (nat_lt 4000 (last + width_of line p)) (is_delay line p && first == 0) _ _
    (first_fault line first last ps) none in
    no_fault_in line first last ps here.2 i param at

pub can_move : (line : Line) (axis : Axis) → axis_fault line axis ≡ None → CanMove line axis
can_move line axis none n inside =
    let last = count_along axis - 1 in
    let low : n ≤ last = omega (arith, inside) in
    let up : n * axis.step ≤ last * axis.step = mul-le-mul_right axis.step low in
    record {
      each = λ i param at.
          let is = no_fault_in line axis.first (least_at axis last) axis.params.items none i param at in
          let within = is.0 in
          record {
            within = omega (arith, within, up);
            delay = λ on. let first = is.1 on in omega (arith, first);
          };
    }

pub can_move_second : (line : Line) (y : Option Axis) → second_fault line y ≡ None
    → CanMoveSecond line y
can_move_second line None none = tt
can_move_second line (Some axis) none = can_move line axis none

neither : (a b : Option MapFault) → option_or a b ≡ None → (a ≡ None) × (b ≡ None)
neither None b none = (refl, none)
neither (Some fault) b none = absurd (cc)

pub can_move_both : (line : Line) (axes : Axes) → map_fault line axes ≡ None
    → CanMoveBoth line axes
can_move_both line axes none =
    let first = neither (axis_fault line axes.x)
    (option_or (second_fault line axes.y) (count_fault axes)) none in
    let then = neither (second_fault line axes.y) (count_fault axes) first.1 in
    record {
      x = can_move line axes.x first.0;
      y = can_move_second line axes.y then.0;
    }
