use Rattle.std.proofs.Common.{◌≤◌, ◌-◌, length}
use Rattle.run_changes.specs.changes.PlayedTracks.{is_on}
use Rattle.run_waves.specs.waves.FirstTick.{IsOffFrom}
use Rattle.cert_claims.proofs.check.met.first_trip.Given as goal

-- off at every tick so far
abbrev pub invariant-stretches : goal.invariant-stretches
invariant-stretches l = record {
  inside : l.t ≤ length l.trip.keys;
  off : IsOffFrom (is_on l.trip) 0 l.t;
}

abbrev pub decreases-stretches : goal.decreases-stretches
decreases-stretches l = length l.trip.keys - l.t
