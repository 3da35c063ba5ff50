-- The declared box with one end of one interval moved inward.
use Rattle.std.specs.Prelude.{◌≤◌, ◌<◌, ◌+◌, ◌-◌, ℕ, IsTrue, max, min}
use Rattle.model_history.specs.Rails.{Ends}
use Rattle.model_line.specs.declared.line.Line.{Line}
use Rattle.model_line.specs.Parameters.{declared_ends, is_delay}
use Rattle.model_logic.specs.{Choice.Box, Boxes.declared_with}
use Rattle.model_settle.specs.Schemes.{IsOneRailedBy}
use Rattle.judge_margins.specs.declared.margins.end.Side.{Side}
use Rattle.judge_margins.specs.declared.margins.end.Side.TheVariants.{Above, Below}
use Rattle.judge_margins.specs.margins.Widened.{first_number}

-- the interval with one of its ends moved inward by n; where it is moved past the other end, that is
-- taken along
abbrev pub moved_in : Ends → Side → ℕ → Ends
moved_in ends Above n =
    record { least = min ends.least (ends.greatest - n); greatest = ends.greatest - n }
moved_in ends Below n =
    record { least = ends.least + n; greatest = max ends.greatest (ends.least + n) }

-- the declared box with an end of one parameter moved inward by n
abbrev pub narrowed : Line → ℕ → Side → ℕ → Box
narrowed line param side n = declared_with line param (moved_in (declared_ends line param) side n)

-- how far an end can be moved at most: down to the first number, up to 4000
abbrev pub depth : Line → ℕ → Side → ℕ
depth line param Above = (declared_ends line param).greatest - first_number line param
depth line param Below = 4000 - (declared_ends line param).least

-- the other end is taken along: each trip of the line is one-railed, and the parameter is no delay
pub record IsTakenAlong (line : Line) (param : ℕ) : Type 0 where
  pub one_railed : IsOneRailedBy line.scheme line
  pub number : ¬ (IsTrue (is_delay line param))

-- an end can be moved inward by n: not past the other end, where that is not taken along
pub record CanMoveIn (line : Line) (param : ℕ) (side : Side) (n : ℕ) : Type 0 where
  pub depth : n ≤ depth line param side
  pub along : (declared_ends line param).greatest - (declared_ends line param).least < n
      → IsTakenAlong line param
