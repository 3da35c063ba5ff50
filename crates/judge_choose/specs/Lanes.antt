-- What lanes tell.
use Rattle.std.specs.Prelude.{◌≡◌, ◌<◌, ◌+◌, ◌-◌, ◌*◌, ℕ, Bool, true, false, List, Option, None, Some, Decides, ◌&&◌, not}
use Rattle.std.specs.Prelude.{MatchOption, length, min, slice_get, if◌then◌else◌}
use Rattle.run_signal.specs.Bits.{bit_on}
use Rattle.model_line.specs.{declared.line.Line.Line, declared.script.Script.Script}
use Rattle.model_line.specs.Parameters.{terminal_count}
use Rattle.model_logic.specs.Choice.{Box}
use Rattle.judge_choose.specs.{declared.cover.Cover.Cover, Told.IsHeldAt}
use Rattle.judge_choose.specs.declared.range.Bound.{Bound}
use Rattle.judge_choose.specs.declared.range.Bound.TheVariants.{Limit, Lost, Open}
use Rattle.judge_choose.specs.Positions.{box_of_cover, position_box}

-- one is on, and the other off
abbrev pub kept_and_off : Bool → Bool → Bool
kept_and_off kept on = kept && not on

-- what is at an end: its limit, or what is lost first beyond it
abbrev pub bound_by : Option ℕ → Bound
bound_by None = Open
bound_by (Some place) = Lost place

abbrev pub bound_of : Bool → Option ℕ → Bound
bound_of limit lost = if limit then Limit else bound_by lost

-- the bit of each obligation in a lane
pub record AreInLane (told : List ℕ) (lane : ℕ) (kept : List Bool) : Type 0 where
  pub count : length kept ≡ length told
  pub each : (place : ℕ) (b : Bool) → slice_get kept place ≡ Some b
      → (bits : ℕ) → slice_get told place ≡ Some bits → b ≡ bit_on bits lane

-- those that are kept, before a place, are on in a lane
abbrev pub AreOnBefore : List Bool → List ℕ → ℕ → ℕ → Type 0
AreOnBefore kept told lane n =
    (p bits : ℕ) → p < n → slice_get kept p ≡ Some true → slice_get told p ≡ Some bits
    → bit_on bits lane ≡ true

-- the first of those that are kept that is off in a lane
pub record IsFirstOff (kept : List Bool) (told : List ℕ) (lane place : ℕ) : Type 0 where
  pub own : slice_get kept place ≡ Some true
  pub bits : ℕ
  pub at : slice_get told place ≡ Some bits
  pub off : bit_on bits lane ≡ false
  pub before : AreOnBefore kept told lane place

abbrev pub TellsFirstOff : List Bool → List ℕ → ℕ → Option ℕ → Type 0
TellsFirstOff kept told lane place =
    MatchOption place (AreOnBefore kept told lane (length kept)) (IsFirstOff kept told lane)

-- the first n of those that are on in a lane are kept
abbrev pub AreKeptBefore : List Bool → List ℕ → ℕ → ℕ → Type 0
AreKeptBefore kept told lane n =
    (p bits : ℕ) (b : Bool) → p < n → slice_get kept p ≡ Some b → slice_get told p ≡ Some bits
    → bit_on bits lane ≡ true → b ≡ true

-- a lane tells of each obligation whether it is held over a box
pub record TellsOver (line : Line) (scripts : List Script) (told : List ℕ) (lane : ℕ) (box : Box)
    : Type 0 where
  pub count : length told ≡ length scripts * terminal_count line
  pub each : (place bits : ℕ) → slice_get told place ≡ Some bits
      → Decides (bit_on bits lane) (IsHeldAt line scripts box place)

-- four lanes from one on tell of a candidate, of the positions one tick below and above it, and of
-- the declared one
pub record TellOf (line : Line) (scripts : List Script) (candidate : Cover) (told : List ℕ)
    (lane : ℕ) : Type 0 where
  pub whole : TellsOver line scripts told lane (box_of_cover line candidate)
  pub below : TellsOver line scripts told (lane + 1)
      (position_box line candidate.setting.now (candidate.first - 1))
  pub above : TellsOver line scripts told (lane + 2)
      (position_box line candidate.setting.now (min (candidate.last + 1) candidate.setting.now.last))
  pub declared : TellsOver line scripts told (lane + 3)
      (position_box line candidate.setting.now candidate.setting.now.declared)
