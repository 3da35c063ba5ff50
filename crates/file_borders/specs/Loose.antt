-- The script of a fault whose times are not known, and which faults have none.
use Rattle.std.specs.Prelude.{◌≡◌, ◌≤◌, ◌+◌, ◌*◌, ◌&&◌, ◌==◌, ℕ, Bool, Option, None, Some}
use Rattle.std.specs.Prelude.{length, get_or, nat_le, IsTrue, if◌then◌else◌}
use Rattle.std.specs.List.{list_all}
use Rattle.model_line.specs.declared.line.Line.{Line}
use Rattle.model_line.specs.declared.script.Kind.TheVariants.{Internal}
use Rattle.model_borders.specs.Borders.{AreLengthsIn, shown_at, stands}
use Rattle.file_study.specs.declared.study.stage.Shown.{Shown}
use Rattle.file_study.specs.study.Faults.{FaultValues, StageValues}
use Rattle.file_study.specs.sweeps.Refusals.{horizon_of}
use Rattle.file_borders.specs.Drawn.{borders_of, first_of, part_of}
use Rattle.file_borders.specs.Exact.{IsShownBy, exact_script}
use Rattle.file_borders.specs.declared.fault.BordersFault.{BordersFault}
use Rattle.file_borders.specs.declared.fault.BordersFault.TheVariants as fault
use Rattle.file_borders.specs.declared.loose.LooseFault.{LooseFault}

-- a stage lasts for one time, or for an interval, whose ends are in order
abbrev pub has_one_time : StageValues → Bool
has_one_time s =
    if s.between then (length s.lasts == 2) && (nat_le (first_of s) (get_or s.lasts 1 0)
    && nat_le (get_or s.lasts 1 0) 4000)
    else length s.lasts == 1

-- no time of the fault is swept
abbrev pub is_unswept : FaultValues → Bool
is_unswept f =
    (length f.start == 1) && ((length f.trip_within == 1) && list_all has_one_time f.stages)

-- an element comes before its stage has ended, also where that is short
abbrev pub comes_by : ℕ → Shown → Bool
comes_by least shown = nat_le shown.after least

abbrev pub comes_in_time : StageValues → Bool
comes_in_time s = list_all (comes_by (first_of s)) s.shows

-- the first of what is wrong with a fault, if anything is
abbrev pub refusal_of : Line → FaultValues → Option BordersFault
refusal_of line f =
    if is_unswept f then
    if nat_le (length (part_of f.stages)) 3 then
    if nat_le (horizon_of f) line.horizon then
    if list_all comes_in_time f.stages then
    if nat_le (borders_of f.stages) 99 then None
    else Some fault.TooManyBorders
    else Some fault.ComesLate
    else Some (fault.Horizon (horizon_of f) line.tick_us)
    else Some fault.TooManyTimes
    else Some fault.Swept

-- A fault as the study tells it, but for its times that are not known: at whole times inside the part it shows
-- what the script shows of the same fault with these times, and is to be tripped by the same tick.
pub record IsLooseOf (f : FaultValues) (loose : LooseFault) : Type 0 where
  pub kind : loose.kind ≡ f.kind
  pub part : loose.part.items ≡ part_of f.stages
  pub few : length loose.part.items ≤ 3
  pub borders : length loose.script.borders.items ≤ 100
  pub within : loose.within ≤ 4000
  pub within_is : loose.within ≡ get_or f.trip_within 0 0
  pub starts : (n : ℕ) (x : ℕ → ℕ)
      → stands n loose.script.borders.items (length loose.part.items) x 0 ≡ get_or f.start 0 0 * n
  pub deadline : (x : ℕ → ℕ) → AreLengthsIn 1 loose.part.items x → loose.kind ≡ Internal
      → (exact_script x f).deadline
      ≡ stands 1 loose.script.borders.items (length loose.part.items) x 0 + loose.within
  pub shown : (x : ℕ → ℕ) → AreLengthsIn 1 loose.part.items x
      → IsShownBy (exact_script x f) (shown_at 1 loose.script (length loose.part.items) x)

-- nothing is wrong with a fault that ends within 4,000 ticks
pub record IsAccepted (f : FaultValues) : Type 0 where
  pub unswept : IsTrue (is_unswept f)
  pub few : length (part_of f.stages) ≤ 3
  pub ends : horizon_of f ≤ 4000
  pub in_time : IsTrue (list_all comes_in_time f.stages)
  pub borders : borders_of f.stages ≤ 99
