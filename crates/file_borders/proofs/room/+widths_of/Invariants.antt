use Rattle.std.proofs.Common.{length}
use Rattle.file_borders.proofs.room.+widths_of.Given as goal

abbrev pub decreases-widths_of : goal.decreases-widths_of
decreases-widths_of l = length l.part.now
