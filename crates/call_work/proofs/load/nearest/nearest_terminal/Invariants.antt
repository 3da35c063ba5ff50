use Rattle.std.proofs.Common.{map, take}
use Rattle.call_work.specs.load.Chosen.{name_of_terminal}
use Rattle.call_work.proofs.load_lemmas.NearestLaws.{IsSoFar}
use Rattle.call_work.proofs.load.nearest.nearest_terminal.Given as goal

abbrev pub invariant-loop-i : goal.invariant-loop-i
invariant-loop-i l = IsSoFar l.asked (map name_of_terminal (take l.i l.terminals)) l.near
