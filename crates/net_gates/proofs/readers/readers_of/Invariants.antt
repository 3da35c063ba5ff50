use Rattle.net_gates.specs.Listing.{ReadersSoFar}
use Rattle.net_gates.proofs.readers.readers_of.Given as goal

abbrev pub invariant-loop-i : goal.invariant-loop-i
invariant-loop-i l = ReadersSoFar l.gates l.i l.readers
