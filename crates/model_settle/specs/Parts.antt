-- Parts of a box that share their ends, so that no choice of fractions lies between them.
use Rattle.std.specs.Prelude.{◌<◌, ℕ, IsTrue}
use Rattle.model_line.specs.Parameters.{param_count, is_delay}
use Rattle.model_line.specs.declared.line.Line.{Line}
use Rattle.model_logic.specs.{Boxes.box_with, Choice.Box}

-- the upper part of a box, from `mid` of a parameter on, where the lower half ends
abbrev pub upper_from : Box → ℕ → ℕ → Box
upper_from box param mid =
    box_with box param (record { least = mid; greatest = (box.ends param).greatest })

-- the box can be parted there: at a parameter of the line that is no delay, between its ends
pub record CanPart (line : Line) (box : Box) (param mid : ℕ) : Type 0 where
  pub exists : param < param_count line
  pub number : ¬ (IsTrue (is_delay line param))
  pub above : (box.ends param).least < mid
  pub below : mid < (box.ends param).greatest
