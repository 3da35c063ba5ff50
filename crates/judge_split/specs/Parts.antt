-- A part of a box, as the declared box of a line of its own.
use Rattle.model_logic.specs.Choice.{Box, declared_box}
use Rattle.model_logic.specs.Boxes.{IsSameBox}
use Rattle.model_line.specs.{declared.line.Line.Line, SetBounds.SameButParams}

-- the part differs from the line in its intervals alone, and they are those of the box
pub record IsPart (line : Line) (box : Box) (part : Line) : Type 0 where
  pub rest : SameButParams line part
  pub intervals : IsSameBox line (declared_box part) box
