use Rattle.std.proofs.Common.{◌≡◌, length, arith}
use Rattle.call_races.proofs.Longests.{longest_of_all}
use Rattle.call_races.proofs.longest.longest_place.Goals as goal

pub returns : goal.returns
returns c =
    let all : c.loop-i.i ≡ length c.args.trips.now = omega arith in
    longest_of_all c.args.trips.now c.loop-i.i c.loop-i.longest all c.loop-i.invariant
