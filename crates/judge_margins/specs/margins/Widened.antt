-- The declared box with one end of one interval moved outward.
use Rattle.std.specs.Prelude.{◌+◌, ◌-◌, ◌/◌, ◌%◌, ◌==◌, ℕ, if◌then◌else◌}
use Rattle.model_history.specs.Rails.{Ends}
use Rattle.model_line.specs.declared.line.Line.{Line}
use Rattle.model_line.specs.Parameters.{declared_ends, is_delay}
use Rattle.model_logic.specs.{Choice.Box, Boxes.declared_with}
use Rattle.judge_margins.specs.declared.margins.end.Side.{Side}
use Rattle.judge_margins.specs.declared.margins.end.Side.TheVariants.{Above, Below}

-- the interval with one of its ends moved outward by n
abbrev pub moved : Ends → Side → ℕ → Ends
moved ends Above n = record { least = ends.least; greatest = ends.greatest + n }
moved ends Below n = record { least = ends.least - n; greatest = ends.greatest }

-- the least number that a parameter may have: of a delay 1
abbrev pub first_number : Line → ℕ → ℕ
first_number line param = if is_delay line param then 1 else 0

-- how far an end can be moved outward: up to 4000, down to the first number
abbrev pub room : Line → ℕ → Side → ℕ
room line param Above = 4000 - (declared_ends line param).greatest
room line param Below = (declared_ends line param).least - first_number line param

-- the declared box with an end of one parameter moved outward by n
abbrev pub widened : Line → ℕ → Side → ℕ → Box
widened line param side n = declared_with line param (moved (declared_ends line param) side n)

-- the ends of all parameters are told in order, of each the end above before the one below
abbrev pub param_at : ℕ → ℕ
param_at place = place / 2

abbrev pub side_at : ℕ → Side
side_at place = if place % 2 == 0 then Above else Below
