use Rattle.std.proofs.Common.{◌≡◌, map, take}
use Rattle.file_borders.specs.Drawn.{extended}
use Rattle.file_borders.proofs.drawn.all_extended.Given as goal

abbrev pub invariant-loop-old : goal.invariant-loop-old
invariant-loop-old l = l.all.items ≡ map (extended l.new) (take l.old-index l.spans)
