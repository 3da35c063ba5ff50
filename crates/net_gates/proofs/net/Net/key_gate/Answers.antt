use Rattle.std.proofs.Common.{◌≡◌, ◌<◌, length, arith, subst}
use Rattle.std.proofs.lemmas.Grind.{common_steps}
use Rattle.net_gates.specs.NetOf.{key_of, IsNet}
use Rattle.net_gates.proofs.net.Net.key_gate.Goals as goal

pub returns-clause-exists : goal.returns-clause-exists
returns-clause-exists c =
    let net : IsNet c.args.self.now = subst IsNet c.self.view_is c.self.invariant.0 in
    let h : key_of c.args.self.now c.args.terminal < length c.args.self.now.gates =
    net.keys c.args.terminal c.requires in
    let e : c.index.result.now.0 ≡ key_of c.args.self.now c.args.terminal =
    grind (arith, common_steps) in
    omega arith
