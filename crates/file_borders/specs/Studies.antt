-- The faults of a study whose times are not known.
use Rattle.std.specs.Prelude.{◌≡◌, ◌≤◌, ◌<◌, ◌+◌, ◌-◌, ◌*◌, ℕ, Bool, true, List, [], ◌∷◌, Option, None, Some}
use Rattle.std.specs.Prelude.{get_or, length, nat_le, slice_get, take, if◌then◌else◌}
use Rattle.std.specs.List.{All, list_any}
use Rattle.model_history.specs.Rails.{Ends, single}
use Rattle.model_line.specs.declared.line.Line.{Line}
use Rattle.model_borders.specs.Borders.{stands}
use Rattle.file_study.specs.study.Faults.{FaultValues}
use Rattle.file_borders.specs.Drawn.{part_of}
use Rattle.file_borders.specs.Loose.{IsLooseOf, refusal_of}
use Rattle.file_borders.specs.declared.fault.BordersFault.{BordersFault}
use Rattle.file_borders.specs.declared.fault.BordersFault.TheVariants as borders
use Rattle.file_borders.specs.declared.loose.LooseFault.{LooseFault}
use Rattle.file_borders.specs.declared.study.StudyBordersFault.{StudyBordersFault}
use Rattle.file_borders.specs.declared.study.StudyBordersFault.TheVariants as fault

-- a stage of it lasts for an interval
abbrev pub has_interval : FaultValues → Bool
has_interval f = list_any (λ s. s.between) f.stages

-- those that have one, in their order
abbrev pub with_intervals : List FaultValues → List FaultValues
with_intervals [] = []
with_intervals (f ∷ fs) = if has_interval f then f ∷ with_intervals fs else with_intervals fs

-- one of each, in their order
abbrev pub AreLooseOf : List FaultValues → List LooseFault → Type 0
AreLooseOf [] [] = Unit {0}
AreLooseOf [] (loose ∷ more) = ⊥
AreLooseOf (f ∷ fs) [] = ⊥
AreLooseOf (f ∷ fs) (loose ∷ more) = IsLooseOf f loose × AreLooseOf fs more

-- by how many ticks times may move, all together
abbrev pub widths_in : List Ends → ℕ
widths_in [] = 0
widths_in (ends ∷ part) = (ends.greatest - ends.least) + widths_in part

-- the horizon of a line that is played on by so many
abbrev pub played_ticks : Line → List Ends → ℕ
played_ticks line part = line.horizon + widths_in part

-- at most 4,000 ticks are played
abbrev pub unless_long : Line → ℕ → Option BordersFault → Option BordersFault
unless_long line ticks None =
    if nat_le ticks 4000 then None else Some (borders.PlayedLong ticks line.tick_us)
unless_long line ticks (Some why) = Some why

-- the first of what is wrong with a fault of a study, if anything is
abbrev pub study_refusal : Line → FaultValues → Option BordersFault
study_refusal line f = unless_long line (played_ticks line (part_of f.stages)) (refusal_of line f)

-- nothing is wrong with a fault, where it has an interval
abbrev pub IsWell : Line → FaultValues → Type 0
IsWell line f = has_interval f ≡ true → study_refusal line f ≡ None

-- A fault that can be answered over a line: it has one to three intervals, each in order, and at most 100 borders;
-- whatever its times are, in fractions of a tick too, it is to be tripped before the line's horizon; and the line can
-- be played on for as long as they may move.
pub record IsAnswerable (line : Line) (loose : LooseFault) : Type 0 where
  pub some : 1 ≤ length loose.part.items
  pub few : length loose.part.items ≤ 3
  pub borders : length loose.script.borders.items ≤ 100
  pub within : loose.within ≤ 4000
  pub ordered : (i : ℕ) → i < length loose.part.items
      → (get_or loose.part.items i (single 0)).least ≤ (get_or loose.part.items i (single 0)).greatest
  pub before : (n : ℕ) (x : ℕ → ℕ) → 1 ≤ n
      → stands n loose.script.borders.items (length loose.part.items) x 0 + loose.within * n
      < line.horizon * n
  pub room : played_ticks line loose.part.items ≤ 4000

-- fault i is refused, for this reason
abbrev pub IsRefusedAt : Line → ℕ → FaultValues → StudyBordersFault → Type 0
IsRefusedAt line i f fault.NoTimes = ⊥
IsRefusedAt line i f (fault.Refused j name why) =
    (j ≡ i) × (name ≡ f.name) × (study_refusal line f ≡ Some why)

-- fault i is the first that has an interval and is wrong
pub record IsRefusedIn (line : Line) (fs : List FaultValues) (why : StudyBordersFault) : Type 0 where
  pub i : ℕ
  pub f : FaultValues
  pub there : slice_get fs i ≡ Some f
  pub interval : has_interval f ≡ true
  pub refused : IsRefusedAt line i f why
  pub before : All (IsWell line) (take i fs)

-- why: none has an interval, or the first that is wrong
abbrev pub IsStudyRefused : Line → List FaultValues → StudyBordersFault → Type 0
IsStudyRefused line fs fault.NoTimes = with_intervals fs ≡ []
IsStudyRefused line fs (fault.Refused i name why) = IsRefusedIn line fs (fault.Refused i name why)
