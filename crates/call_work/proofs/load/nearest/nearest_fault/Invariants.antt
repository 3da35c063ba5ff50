use Rattle.std.proofs.Common.{map, take}
use Rattle.call_work.specs.load.Chosen.{name_of_fault}
use Rattle.call_work.proofs.load_lemmas.NearestLaws.{IsSoFar}
use Rattle.call_work.proofs.load.nearest.nearest_fault.Given as goal

abbrev pub invariant-loop-i : goal.invariant-loop-i
invariant-loop-i l = IsSoFar l.asked (map name_of_fault (take l.i l.groups)) l.near
