use Rattle.std.proofs.Common.{◌≡◌, ◌*◌, length, refl, sym, ◌∙◌, ap, subst}
use Rattle.model_logic.specs.Choice.{Box}
use Rattle.run_step.specs.{LaneBox.lane_box, GatePairs.line_pairs, Ticks.ValuesTold}
use Rattle.run_step.specs.{WavesOf.WavesOf, WavesOf.AreWaves, Runs.AreWavesOf}
use Rattle.run_step.specs.RunLaws.{made_waves, run_pairs, own_history, run_history}
use Rattle.run_step.specs.RunLaws.{run_covers}
use Rattle.run_step.specs.PointLaws.{exact_at}
use Rattle.run_ticks.proofs.net.run_net.run.Given.{Over}
use Rattle.run_ticks.proofs.net.run_net.run.Goals as goal
use Rattle.run_ticks.proofs.net.run_net.run.Goals.{In_ok-values}

-- the waves that are made
abbrev made : (g : Over) → In_ok-values g → WavesOf g.row.V.Denot
made g c = record {
  width = c.len-width.result;
  horizon = c.args.compiled.now.line.now.horizon;
  values = c.in_ok-values.values.items;
  keys = c.in_ok-keys.keys.items;
  trips = c.in_ok-trips.trips.items;
}

made_of : (g : Over) (c : In_ok-values g) → AreWavesOf c.args.compiled.now.net.now
    c.args.compiled.now.line.now (made g c)
made_of g c = record {
  width = c.len-width.ensures.len;
  horizon = refl;
  keys = c.in_ok-keys.ensures.items ∙ c.key_gates.ensures;
  trips = c.in_ok-trips.ensures.items ∙ c.trip_gates.ensures;
}

pub new-requires : goal.new-requires
new-requires g c =
    made_waves c.args.compiled.now.line.now c.args.compiled.now.net.now (made g c)
    c.args.compiled.now.of_line.laws
    c.args.compiled.now.line.now.horizon_in_range.1 (made_of g c) c.in_ok-values.ensures.count

pub returns-clause-waves : goal.returns-clause-waves
returns-clause-waves g c =
    subst (AreWavesOf c.args.compiled.now.net.now c.args.compiled.now.line.now) (sym c.new.ensures)
    (made_of g (goal.at.returns-clause-waves g c).In_ok-values)

pub returns-clause-pairs : goal.returns-clause-pairs
returns-clause-pairs g c = λ lane inside.
    let net = c.args.compiled.now.net.now in
    let line = c.args.compiled.now.line.now in
    let script = c.args.script.now in
    let waves : WavesOf g.row.V.Denot = c.new.result in
    let of : AreWavesOf net line waves = returns-clause-waves g c in
    let values : waves.values ≡ c.in_ok-values.values.items =
    ap (λ (w : WavesOf g.row.V.Denot). w.values) c.new.ensures in
    let count : length waves.values ≡ line.horizon * length net.gates =
    ap length values ∙ c.in_ok-values.ensures.count in
    let are : AreWaves waves =
    made_waves line net waves c.args.compiled.now.of_line.laws line.horizon_in_range.1 of count in
    let box : Box = lane_box g.V.Signal.signal.ends line c.args.spans.now c.args.steps.now lane in
    run_pairs c.line_laws.ensures c.gates_stand_for_their_trees.ensures line script box
    (c.requires.delayed lane inside) net c.args.compiled.now.of_line
    g.V.Signal.signal.rails lane waves of are
    (subst (ValuesTold g.V.Signal.signal.rails lane (line_pairs line script box net) (length net.gates))
    (sym values) (c.in_ok-values.ensures.told lane inside))

pub returns-clause-history : goal.returns-clause-history
returns-clause-history g c = λ lane inside.
    run_history c.line_laws.ensures c.gates_stand_for_their_trees.ensures
    c.args.compiled.now.line.now c.args.script.now _ (c.requires.delayed lane inside)
    c.args.compiled.now.net.now c.args.compiled.now.of_line g.V.Signal.signal.rails lane c.new.result
    (returns-clause-waves g c) (returns-clause-pairs g c lane inside)

pub returns-clause-covers : goal.returns-clause-covers
returns-clause-covers g c = λ lane inside.
    run_covers c.line_laws.ensures c.gates_stand_for_their_trees.ensures
    c.args.compiled.now.line.now c.args.script.now _ (c.requires.delayed lane inside)
    c.args.compiled.now.net.now c.args.compiled.now.of_line g.V.Signal.signal.rails lane c.new.result
    (returns-clause-waves g c) (returns-clause-pairs g c lane inside)

pub returns-clause-exact : goal.returns-clause-exact
returns-clause-exact g c = λ lane choice inside point.
    exact_at c.line_laws.ensures c.args.compiled.now.line.now c.args.script.now _
    (c.requires.delayed lane inside) choice point _
    (own_history c.line_laws.ensures c.gates_stand_for_their_trees.ensures
    c.args.compiled.now.line.now c.args.script.now _ (c.requires.delayed lane inside)
    c.args.compiled.now.net.now c.args.compiled.now.of_line g.V.Signal.signal.rails lane c.new.result
    (returns-clause-waves g c) (returns-clause-pairs g c lane inside))
