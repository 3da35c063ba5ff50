-- The axes that the words of a map ask for, or why there is no such map.
use Rattle.std.specs.Prelude.{◌≡◌, ◌+◌, ◌-◌, ◌*◌, ◌/◌, ◌==◌, ℕ, List, [], ◌∷◌, Option, None, Some}
use Rattle.std.specs.Prelude.{Result, Ok, Err, map, nat_lt, if◌then◌else◌}
use Rattle.std.specs.{List.list_any, Option.option_or}
use Rattle.base_memory.specs.Gives.{◌>>=◌}
use Rattle.model_line.specs.declared.line.Line.{Line}
use Rattle.model_line.specs.NamesByNumber.{parameter_name}
use Rattle.judge_margins.specs.{declared.map.axis.Axis.Axis, declared.map.axis.Axes.Axes}
use Rattle.judge_margins.specs.declared.map.fault.MapFault.{MapFault}
use Rattle.judge_margins.specs.declared.map.fault.MapFault.TheVariants.{TooMany}
use Rattle.judge_margins.specs.map.Faults.{first_fault}
use Rattle.file_study.specs.declared.times.{axis_fault.AxisFault.AxisFault, steps.Steps.Steps}
use Rattle.file_study.specs.declared.times.axis_fault.AxisFault.TheVariants as axis
use Rattle.file_study.specs.{times.Names.name_of, times.Names.params_of, times.Parts.names_of, times.Steps.steps_of}
use Rattle.call_work.specs.{load.Chosen.name_of_param, load.Nearest.nearest}
use Rattle.call_work.specs.declared.map.{denial.MapDenial.MapDenial, denial.Side.Side}
use Rattle.call_work.specs.declared.map.denial.MapDenial.TheVariants as denial
use Rattle.call_work.specs.declared.map.denial.Side.TheVariants as side

-- ---- an axis by its words

-- parameters, and the numbers of ticks from which their intervals begin
pub record Moved : Type 0 where
  pub params : List ℕ
  pub steps : Steps

-- why the words ask for none: of a name that stands for no parameter the nearest that does
abbrev pub denial_by : Line → Side → List ℕ → AxisFault → MapDenial
denial_by line side words (axis.Unknown number) =
    denial.Unknown side number
    (nearest (map name_of_param line.params.items) (name_of (names_of words) (number - 1)))
denial_by line side words why = denial.Words side why

abbrev pub moved_with : Line → Side → List ℕ → Result Steps AxisFault → Result Moved MapDenial
moved_with line side words (Err why) = Err (denial_by line side words why)
moved_with line side words (Ok steps) =
    Ok (record { params = params_of line (names_of words); steps = steps })

abbrev pub moved_by : Line → Side → List ℕ → Result Moved MapDenial
moved_by line side words = moved_with line side words (steps_of line words)

-- ---- both axes

pub record Both : Type 0 where
  pub x : Moved
  pub y : Option Moved

abbrev pub second_by : Line → Option (List ℕ) → Result (Option Moved) MapDenial
second_by line None = Ok None
second_by line (Some words) = do
  moved ← moved_by line side.Y words
  Ok (Some moved)

-- ---- what cannot be told

-- the first of these parameters that is one of the others too
abbrev pub first_among : List ℕ → List ℕ → Option ℕ
first_among others [] = None
first_among others (param ∷ params) =
    if list_any (λ other. other == param) others then Some param else first_among others params

abbrev pub twice_in : List ℕ → Option Moved → Option ℕ
twice_in params None = None
twice_in params (Some moved) = first_among params moved.params

-- how many numbers there are, and the last
abbrev pub count_of : Steps → ℕ
count_of steps = (steps.last - steps.first) / steps.step + 1

abbrev pub last_of : Steps → ℕ
last_of steps = steps.first + (count_of steps - 1) * steps.step

-- an interval leaves its limits at some number, as the cells of a map have it
abbrev pub moved_fault : Line → Moved → Option MapFault
moved_fault line moved = first_fault line moved.steps.first (last_of moved.steps) moved.params

abbrev pub second_fault : Line → Option Moved → Option MapFault
second_fault line None = None
second_fault line (Some moved) = moved_fault line moved

abbrev pub rows_in : Option Moved → ℕ
rows_in None = 1
rows_in (Some moved) = count_of moved.steps

-- 40,000 cells are the most
abbrev pub count_fault : Both → Option MapFault
count_fault both =
    if nat_lt 40000 (count_of both.x.steps * rows_in both.y) then Some TooMany else None

abbrev pub fault_of : Line → Both → Option MapFault
fault_of line both =
    option_or (moved_fault line both.x) (option_or (second_fault line both.y) (count_fault both))

abbrev pub no_fault : Both → Option MapFault → Result Both MapDenial
no_fault both None = Ok both
no_fault both (Some why) = Err (denial.Fault why)

abbrev pub not_twice : Line → Both → Option ℕ → Result Both MapDenial
not_twice line both None = no_fault both (fault_of line both)
not_twice line both (Some param) = Err (denial.Twice (parameter_name line param))

abbrev pub told_of : Line → Both → Result Both MapDenial
told_of line both = not_twice line both (twice_in both.x.params both.y)

-- ---- what the words ask for

-- the words of the columns, and those of the rows if there are any; the first fault
abbrev pub asked_of : Line → List ℕ → Option (List ℕ) → Result Both MapDenial
asked_of line x y = do
  across ← moved_by line side.X x
  up ← second_by line y
  told_of line (record { x = across; y = up })

-- ---- the same as axes of a map

pub record IsAxisOf (moved : Moved) (axis : Axis) : Type 0 where
  pub params : axis.params.items ≡ moved.params
  pub first : axis.first ≡ moved.steps.first
  pub last : axis.last ≡ moved.steps.last
  pub step : axis.step ≡ moved.steps.step

abbrev pub IsSecondOf : Option Moved → Option Axis → Type 0
IsSecondOf None None = Unit {0}
IsSecondOf None (Some axis) = ⊥
IsSecondOf (Some moved) None = ⊥
IsSecondOf (Some moved) (Some axis) = IsAxisOf moved axis

pub record AreAxesOf (both : Both) (axes : Axes) : Type 0 where
  pub x : IsAxisOf both.x axes.x
  pub y : IsSecondOf both.y axes.y

-- the first parameter of a second axis that is one of these
abbrev pub twice_by : List ℕ → Option Axis → Option ℕ
twice_by params None = None
twice_by params (Some axis) = first_among params axis.params.items

-- why a map cannot be made of axes, and what the words then ask for
abbrev pub Tells : Line → Both → Option MapDenial → Type 0
Tells line both None = told_of line both ≡ Ok both
Tells line both (Some why) = told_of line both ≡ Err why
