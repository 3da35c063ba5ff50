use Rattle.std.proofs.Common.{◌≡◌, ◌<◌, arith, subst}
use Rattle.std.proofs.lemmas.Grind.{common_steps}
use Rattle.net_gates.specs.NetOf.{id_at}
use Rattle.run_step.specs.WavesOf.{AreWaves}
use Rattle.run_ticks.proofs.net.waves.Waves.trip_gate.Goals as goal

pub returns-clause-exists : goal.returns-clause-exists
returns-clause-exists g c =
    let whole : AreWaves {V = g.row.V.Denot} c.args.self.now =
    subst (AreWaves {V = g.row.V.Denot}) c.self.view_is c.self.invariant in
    let h : id_at c.args.self.now.trips c.args.terminal < c.args.self.now.width =
    whole.trips c.args.terminal c.requires in
    let e : c.index.result.now.0 ≡ id_at c.args.self.now.trips c.args.terminal =
    grind (arith, common_steps) in
    omega arith
