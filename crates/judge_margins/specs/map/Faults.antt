-- Why a map cannot be made.
use Rattle.std.specs.Prelude.{◌+◌, ◌-◌, ◌==◌, ◌&&◌, ℕ, List, [], ◌∷◌, Option, None, Some, nat_lt}
use Rattle.std.specs.Prelude.{if◌then◌else◌}
use Rattle.std.specs.Option.{option_or}
use Rattle.model_line.specs.{declared.line.Line.Line, Parameters.is_delay}
use Rattle.model_line.specs.NamesByNumber.{parameter_name}
use Rattle.judge_margins.specs.{declared.map.axis.Axis.Axis, declared.map.axis.Axes.Axes}
use Rattle.judge_margins.specs.declared.map.fault.MapFault.{MapFault}
use Rattle.judge_margins.specs.declared.map.fault.MapFault.TheVariants.{Late, NoDelay, TooMany}
use Rattle.judge_margins.specs.{map.Axes.cell_count, map.Axes.count_along, map.Axes.least_at, map.Placed.width_of}

-- the first of these parameters whose interval cannot begin at each number from the first to the
-- last: it would go beyond 4,000 ticks, or it is a delay that would begin at 0
abbrev pub first_fault : Line → ℕ → ℕ → List ℕ → Option MapFault
first_fault line first last [] = None
first_fault line first last (param ∷ params) =
    if nat_lt 4000 (last + width_of line param) then Some (Late (parameter_name line param))
    else (if is_delay line param && first == 0 then Some (NoDelay (parameter_name line param))
    else first_fault line first last params)

abbrev pub axis_fault : Line → Axis → Option MapFault
axis_fault line axis =
    first_fault line axis.first (least_at axis (count_along axis - 1)) axis.params.items

abbrev pub second_fault : Line → Option Axis → Option MapFault
second_fault line None = None
second_fault line (Some axis) = axis_fault line axis

-- 40,000 cells are the most
abbrev pub count_fault : Axes → Option MapFault
count_fault axes = if nat_lt 40000 (cell_count axes) then Some TooMany else None

-- the first axis comes before the second, and both before the number of cells
abbrev pub map_fault : Line → Axes → Option MapFault
map_fault line axes =
    option_or (axis_fault line axes.x) (option_or (second_fault line axes.y) (count_fault axes))
