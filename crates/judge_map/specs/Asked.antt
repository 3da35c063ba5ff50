-- The cell that is asked about.
use Rattle.std.specs.Prelude.{◌<◌, ◌*◌, ℕ, List, length}
use Rattle.std.specs.List.{All}
use Rattle.model_line.specs.{declared.line.Line.Line, Fits.Fits, Parameters.terminal_count}
use Rattle.model_line.specs.SetBounds.{SameButParams}
use Rattle.model_logic.specs.{Boxes.IsSameBox, Choice.Box, Choice.declared_box}
use Rattle.judge_margins.specs.map.Axes.{AreAxes, CanMoveBoth, cell_count, place_box}
use Rattle.judge_map.specs.{declared.asked.Asked.Asked, declared.known.Known.Known, Cells.AreKnown}

-- the scripts fit the line, each cell of the axes can be placed, and it is one of them
pub record IsAsked (asked : Asked) : Type 0 where
  pub fit : All (Fits asked.line.now) asked.scripts.now
  pub axes : AreAxes asked.line.now asked.axes.now
  pub can : CanMoveBoth asked.line.now asked.axes.now
  pub place : asked.place < cell_count asked.axes.now

-- its box
abbrev pub box_of : Asked → Box
box_of asked = place_box asked.line.now asked.axes.now asked.place

-- what is known of its first n obligations
abbrev pub AreKnownOf : Asked → ℕ → List Known → Type 0
AreKnownOf asked n known = AreKnown asked.line.now asked.scripts.now (box_of asked) n known

-- how many obligations there are
abbrev pub many_of : Asked → ℕ
many_of asked = length asked.scripts.now * terminal_count asked.line.now

-- a line that differs in its intervals alone, which are those of the cell
pub record HasItsBox (asked : Asked) (other : Line) : Type 0 where
  pub rest : SameButParams asked.line.now other
  pub box : IsSameBox asked.line.now (declared_box other) (box_of asked)
