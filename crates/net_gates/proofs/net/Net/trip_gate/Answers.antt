use Rattle.std.proofs.Common.{◌≡◌, ◌<◌, length, arith, subst}
use Rattle.std.proofs.lemmas.Grind.{common_steps}
use Rattle.net_gates.specs.NetOf.{trip_of, IsNet}
use Rattle.net_gates.proofs.net.Net.trip_gate.Goals as goal

pub returns-clause-exists : goal.returns-clause-exists
returns-clause-exists c =
    let net : IsNet c.args.self.now = subst IsNet c.self.view_is c.self.invariant.0 in
    let same : length c.args.self.now.trips ≡ length c.args.self.now.keys = net.same in
    let lt : c.args.terminal < length c.args.self.now.trips = omega (arith, c.requires, same) in
    let h : trip_of c.args.self.now c.args.terminal < length c.args.self.now.gates =
    net.trips c.args.terminal lt in
    let e : c.index.result.now.0 ≡ trip_of c.args.self.now c.args.terminal =
    grind (arith, common_steps) in
    omega arith
