use Rattle.std.proofs.Common.{take}
use Rattle.file_borders.specs.Drawn.{AreBorders}
use Rattle.file_borders.proofs.part.borders_at.Given as goal

abbrev pub invariant-loop-i : goal.invariant-loop-i
invariant-loop-i l = AreBorders (take l.i l.ats) l.borders.items
