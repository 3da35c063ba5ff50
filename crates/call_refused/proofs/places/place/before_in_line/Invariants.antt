use Rattle.std.proofs.Common.{◌≡◌, ◌≤◌}
use Rattle.call_refused.specs.places.Places.{before_in_line}
use Rattle.call_refused.proofs.places.place.before_in_line.Given as goal

abbrev pub invariant-loop-i : goal.invariant-loop-i
invariant-loop-i l = record {
  is : l.count ≡ before_in_line l.bytes l.i;
  within : l.count ≤ l.i;
}
