use Rattle.std.proofs.Common.{◌≤◌, length}
use Rattle.call_refused.proofs.places.records.place_in.Given as goal

abbrev pub invariant-rows : goal.invariant-rows
invariant-rows l = l.place ≤ length l.bytes
