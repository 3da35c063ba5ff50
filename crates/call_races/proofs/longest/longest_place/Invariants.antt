use Rattle.call_races.proofs.Longests.{IsLongestOf}
use Rattle.call_races.proofs.longest.longest_place.Given as goal

abbrev pub invariant-loop-i : goal.invariant-loop-i
invariant-loop-i l = IsLongestOf l.trips l.i l.longest
