use Rattle.std.proofs.Common.{ℕ, length, ap, arith, subst}
use Rattle.run_step.specs.Ticks.{AreFresh}
use Rattle.run_changes.proofs.changes.start.empty_tracks.Goals as goal

pub overflow_cast-key_gates : goal.overflow_cast-key_gates
overflow_cast-key_gates g c =
    let few = c.args.compiled.now.line.now.two_or_three.1 in
    let keys = ap length c.key_gates.ensures in
    record { fits = omega (arith, keys, c.args.compiled.now.of_line.terminals, few) }

pub overflow_cast-trip_gates : goal.overflow_cast-trip_gates
overflow_cast-trip_gates g c =
    let few = c.args.compiled.now.line.now.two_or_three.1 in
    let net = c.args.compiled.now.of_line in
    record {
      fits = omega (arith, ap length c.trip_gates.ensures, net.laws.same, net.terminals, few);
    }

pub returns-clause-keys : goal.returns-clause-keys
returns-clause-keys g c =
    subst (λ (m : ℕ). AreFresh m c.args.compiled.now.line.now.horizon c.in_ok-keys.keys.items)
    (ap length c.key_gates.ensures) c.in_ok-keys.ensures

pub returns-clause-trips : goal.returns-clause-trips
returns-clause-trips g c =
    subst (λ (m : ℕ). AreFresh m c.args.compiled.now.line.now.horizon c.in_ok-trips.trips.items)
    (ap length c.trip_gates.ensures) c.in_ok-trips.ensures
