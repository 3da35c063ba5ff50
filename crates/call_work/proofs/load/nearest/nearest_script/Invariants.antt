use Rattle.std.proofs.Common.{map, take}
use Rattle.call_work.specs.load.Chosen.{name_of_script}
use Rattle.call_work.proofs.load_lemmas.NearestLaws.{IsSoFar}
use Rattle.call_work.proofs.load.nearest.nearest_script.Given as goal

abbrev pub invariant-loop-i : goal.invariant-loop-i
invariant-loop-i l = IsSoFar l.asked (map name_of_script (take l.i l.scripts)) l.near
