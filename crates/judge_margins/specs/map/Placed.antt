-- A line with several intervals moved together.
use Rattle.std.specs.Prelude.{◌≡◌, ◌≤◌, ◌<◌, ◌+◌, ◌-◌, ℕ, zero, suc, List, Some, IsTrue, slice_get}
use Rattle.model_line.specs.{declared.line.Line.Line, SameLine.SameLine, WithBounds.IsWithBounds}
use Rattle.model_line.specs.Parameters.{declared_ends, is_delay, param_count}

-- how wide the declared interval is
abbrev pub width_of : Line → ℕ → ℕ
width_of line param = (declared_ends line param).greatest - (declared_ends line param).least

-- parameters of the line
abbrev pub AreOfLine : Line → List ℕ → Type 0
AreOfLine line params =
    (i param : ℕ) → slice_get params i ≡ Some param → param < param_count line

-- the interval, with its width, can begin there: it stays within 4000, and a delay begins at 1
pub record CanPlace (line : Line) (least param : ℕ) : Type 0 where
  pub within : least + width_of line param ≤ 4000
  pub delay : IsTrue (is_delay line param) → 1 ≤ least

pub record CanPlaceAll (line : Line) (params : List ℕ) (least : ℕ) : Type 0 where
  pub each : (i param : ℕ) → slice_get params i ≡ Some param → CanPlace line least param

-- the first n of these intervals begin there, one moved after another; all else is as declared
abbrev pub IsPlaced : Line → List ℕ → ℕ → ℕ → Line → Type 0
IsPlaced line params least zero other = SameLine line other
IsPlaced line params least (suc n) other =
    (before : Line) × IsPlaced line params least n before
    × ((param : ℕ) → slice_get params n ≡ Some param
    → IsWithBounds before param least (least + width_of line param) other)
