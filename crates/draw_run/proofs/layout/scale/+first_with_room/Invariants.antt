use Rattle.std.proofs.Common.{length}
use Rattle.draw_run.proofs.layout.scale.+first_with_room.Given as goal

abbrev pub decreases-first_with_room : goal.decreases-first_with_room
decreases-first_with_room l = length l.steps.now
