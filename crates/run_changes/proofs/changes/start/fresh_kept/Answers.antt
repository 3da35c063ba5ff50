use Rattle.std.proofs.Common.{ℕ, length, refl, arith, sym}
use Rattle.model_logic.specs.{Choice.pair_world_of}
use Rattle.run_step.specs.LaneBox.{lane_box}
use Rattle.run_step.specs.Lanes.{LanePairs, line_lane}
use Rattle.run_changes.specs.changes.Tracks.{trips_of}
use Rattle.run_step.specs.GivenLaws.{stand_none}
use Rattle.run_step.specs.SendLaws.{fresh_sent, none_sent}
use Rattle.run_changes.proofs.changes.start.fresh_kept.Goals as goal

pub returns-clause-can : goal.returns-clause-can
returns-clause-can g c =
    let h = c.args.run.now.compiled.now.line.now.horizon in
    let net = c.args.run.now.compiled.now.net.now in
    let tracks = c.in_ok-tracks.tracks in
    record {
      gates = c.in_ok-gates.ensures.gates;
      reached = sym c.in_ok-gates.ensures.next;
      horizon = c.in_ok-gates.ensures.horizon;
      shown = c.in_ok-shown.ensures.each;
      delays = c.in_ok-delays.ensures.delays;
      stand = stand_none g.V.Signal.signal c.args.run.now c.in_ok-delays.delays.items
          c.in_ok-delays.ensures.over;
      until = λ x d at. omega arith;
      keys = fresh_sent (length net.keys) h tracks.keys.items c.in_ok-tracks.ensures.keys;
      trips = fresh_sent (length net.trips) h tracks.trips.items c.in_ok-tracks.ensures.trips;
    }

pub returns-clause-stands : goal.returns-clause-stands
unfolding pair_world_of lane_box
returns-clause-stands g c =
    let h = c.args.run.now.compiled.now.line.now.horizon in
    let rails = g.V.Signal.signal.rails in
    let net = c.args.run.now.compiled.now.net.now in
    let tracks = c.in_ok-tracks.tracks in
    let p : ℕ → LanePairs =
    λ l. line_lane g.V.Signal.signal.ends c.args.run.now c.args.script.now l in
    record {
      shown = c.in_ok-shown.ensures.shown;
      tracked = λ l il. record {
        keys_kept = none_sent rails l (length net.keys) h (p l).keys tracks.keys.items
            c.in_ok-tracks.ensures.keys;
        trips_kept = none_sent rails l (length net.trips) h (trips_of net (p l).pairs)
            tracks.trips.items c.in_ok-tracks.ensures.trips;
        wait = c.in_ok-gates.ensures.wait l (p l) il (λ x. refl);
      };
    }

pub fresh_delays-requires : goal.fresh_delays-requires
fresh_delays-requires g c = record { spans = c.requires.spans }

pub fresh_gates-requires : goal.fresh_gates-requires
fresh_gates-requires g c = record { spans = c.requires.spans }
