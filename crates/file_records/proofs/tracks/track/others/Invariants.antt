use Rattle.std.proofs.Common.{◌≡◌, map, not, take}
use Rattle.file_records.proofs.tracks.track.others.Given as goal

abbrev pub invariant-loop-level : goal.invariant-loop-level
invariant-loop-level l = l.others.items ≡ map not (take l.level-index l.levels)
