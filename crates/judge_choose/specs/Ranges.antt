-- The range of a setting: what is held over it, what is lost beyond it.
use Rattle.std.specs.Prelude.{◌≡◌, ◌≤◌, ◌<◌, ◌+◌, ◌-◌, ◌*◌, ℕ, Bool, true, List, Some, Decides, length, slice_get}
use Rattle.model_line.specs.{declared.line.Line.Line, declared.script.Script.Script}
use Rattle.model_line.specs.Parameters.{terminal_count}
use Rattle.model_logic.specs.Choice.{Box, declared_box}
use Rattle.judge_choose.specs.{declared.setting.Setting.Setting, declared.range.Range.Range}
use Rattle.judge_choose.specs.{declared.range.Bound.Bound, Told.IsHeldAt}
use Rattle.judge_choose.specs.declared.range.Bound.TheVariants.{Limit, Lost, Open}
use Rattle.judge_choose.specs.Positions.{cover_box, position_box}

-- of each obligation whether it is held over a box
pub record AreKept (line : Line) (scripts : List Script) (box : Box) (kept : List Bool)
    : Type 0 where
  pub count : length kept ≡ length scripts * terminal_count line
  pub each : (place : ℕ) (b : Bool) → slice_get kept place ≡ Some b
      → Decides b (IsHeldAt line scripts box place)

-- those that are kept are held over a box too
abbrev pub AllHeldAt : Line → List Script → Box → List Bool → Type 0
AllHeldAt line scripts box kept =
    (place : ℕ) → slice_get kept place ≡ Some true → IsHeldAt line scripts box place

-- the first of those that are kept that is not held over a box
pub record IsFirstLost (line : Line) (scripts : List Script) (box : Box) (kept : List Bool)
    (place : ℕ) : Type 0 where
  pub own : slice_get kept place ≡ Some true
  pub lost : ¬ (IsHeldAt line scripts box place)
  pub before : (p : ℕ) → p < place → slice_get kept p ≡ Some true → IsHeldAt line scripts box p

-- below the range: no position is left; or one tick below it an obligation is lost, and this is the
-- first; or none is
abbrev pub IsBelow : Line → List Script → Setting → Range → Bound → Type 0
IsBelow line scripts setting range Limit = range.first ≡ 0
IsBelow line scripts setting range (Lost place) =
    (1 ≤ range.first)
    × IsFirstLost line scripts (position_box line setting (range.first - 1)) range.kept.items place
IsBelow line scripts setting range Open =
    (1 ≤ range.first)
    × AllHeldAt line scripts (position_box line setting (range.first - 1)) range.kept.items

-- the same above it
abbrev pub IsAbove : Line → List Script → Setting → Range → Bound → Type 0
IsAbove line scripts setting range Limit = range.last ≡ setting.last
IsAbove line scripts setting range (Lost place) =
    (range.last < setting.last)
    × IsFirstLost line scripts (position_box line setting (range.last + 1)) range.kept.items place
IsAbove line scripts setting range Open =
    (range.last < setting.last)
    × AllHeldAt line scripts (position_box line setting (range.last + 1)) range.kept.items

-- positions in order, none past the last one; what is held over all of them at once; both bounds
pub record IsShown (line : Line) (scripts : List Script) (setting : Setting) (range : Range)
    : Type 0 where
  pub ordered : range.first ≤ range.last
  pub within : range.last ≤ setting.last
  pub kept : AreKept line scripts (cover_box line setting range.first range.last) range.kept.items
  pub below : IsBelow line scripts setting range range.below
  pub above : IsAbove line scripts setting range range.above

-- what is held as declared is kept
abbrev pub KeepsToday : Line → List Script → List Bool → Type 0
KeepsToday line scripts kept =
    (place : ℕ) (b : Bool) → slice_get kept place ≡ Some b
    → IsHeldAt line scripts (declared_box line) place → b ≡ true

pub record IsRange (line : Line) (scripts : List Script) (setting : Setting) (range : Range)
    : Type 0 where
  pub shown : IsShown line scripts setting range
  pub today : KeepsToday line scripts range.kept.items

-- of the first n settings
pub record AreRangesBelow (line : Line) (scripts : List Script) (settings : List Setting) (n : ℕ)
    (ranges : List Range) : Type 0 where
  pub count : length ranges ≡ n
  pub each : (i : ℕ) (range : Range) → slice_get ranges i ≡ Some range
      → (setting : Setting) → slice_get settings i ≡ Some setting
      → IsRange line scripts setting range
