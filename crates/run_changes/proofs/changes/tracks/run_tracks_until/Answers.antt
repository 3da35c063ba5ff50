use Rattle.std.proofs.Common.{◌≡◌, ◌≤◌, ℕ, ◌<◌, length, sym, ◌∙◌, subst, arith}
use Rattle.model_logic.specs.PairMean.{PairWorld, PairSignals}
use Rattle.model_logic.specs.{Logic.key_tree, Solution.the_keys, Choice.pair_world_of}
use Rattle.run_changes.specs.changes.Tracks.{tracks_history, trips_of}
use Rattle.run_step.specs.{GatePairs.GateSignals, GatePairs.line_pairs, LaneBox.lane_box}
use Rattle.run_step.specs.LaneBox.{lane_world}
use Rattle.run_changes.proofs.changes_lemmas.UntilLaws.{exact_below}
use Rattle.run_changes.proofs.changes_lemmas.TrackLaws.{kept_pair}
use Rattle.run_changes.proofs.changes.tracks.run_tracks_until.Goals as goal

pub returns-clause-keys : goal.returns-clause-keys
returns-clause-keys g c = record {
  count = c.take_until.ensures.kept.keys.count;
  reach = λ k track at.
      let long : length track.keys ≡ c.take_until.result =
      (c.take_until.ensures.kept.keys.each k track at).0 in
      omega (arith, long, c.take_until.ensures.reached);
}

pub returns-clause-trips : goal.returns-clause-trips
returns-clause-trips g c = record {
  count = c.take_until.ensures.kept.trips.count;
  reach = λ k track at.
      let long : length track.keys ≡ c.take_until.result =
      (c.take_until.ensures.kept.trips.each k track at).0 in
      omega (arith, long, c.take_until.ensures.reached);
}

pub returns-clause-exact : goal.returns-clause-exact
unfolding pair_world_of lane_box
returns-clause-exact g c = λ lane choice inside point.
    let line = c.args.compiled.now.line.now in
    let script = c.args.script.now in
    let spans = c.args.spans.now in
    let steps = c.args.steps.now in
    let net = c.args.compiled.now.net.now in
    let of_line = c.args.compiled.now.of_line in
    let h = line.horizon in
    let n = c.take_until.result in
    let ends = g.V.Signal.signal.ends in
    let rails = g.V.Signal.signal.rails in
    let w : PairWorld = lane_world ends line script spans steps lane in
    let key : PairSignals = the_keys w (key_tree line) in
    let u : GateSignals = line_pairs line script (lane_box ends line spans steps lane) net in
    let kept = c.take_until.new.kept in
    let reached : c.args.until ≤ n = c.take_until.ensures.reached in
    let stands =
    (c.take_until.ensures.stands script (c.in_ok-kept.ensures.stands)).tracked lane inside in
    exact_below c.line_laws.ensures c.gates_stand_for_their_trees.ensures line script
    (lane_box ends line spans steps lane) (c.requires.delayed lane inside) net of_line choice point
    c.args.until (tracks_history rails lane kept.keys.items kept.trips.items) c.requires.inside
    (λ k t kn lt. kept_pair c.history_laws.ensures rails lane key (length net.keys) h n k t
    kept.keys.items c.take_until.ensures.kept.keys stands.keys_kept
    (subst (λ (m : ℕ). k < m) (sym of_line.terminals) kn) (omega (arith, lt, reached)))
    (λ k t kn lt. kept_pair c.history_laws.ensures rails lane (trips_of net u) (length net.trips) h n k t
    kept.trips.items c.take_until.ensures.kept.trips stands.trips_kept
    (subst (λ (m : ℕ). k < m) (sym (of_line.laws.same ∙ of_line.terminals)) kn)
    (omega (arith, lt, reached)))

pub fresh_kept-requires : goal.fresh_kept-requires
fresh_kept-requires g c = record { spans = c.requires.spans }

pub take_until-requires-clause-kept : goal.take_until-requires-clause-kept
take_until-requires-clause-kept g c = c.in_ok-kept.ensures.can

pub take_until-requires-clause-inside : goal.take_until-requires-clause-inside
take_until-requires-clause-inside g c = c.requires.inside

pub take_until-requires-clause-can : goal.take_until-requires-clause-can
take_until-requires-clause-can g c = record {
  ascending = c.requires.ascending;
  delayed = c.requires.delayed;
  one_each = c.requires.spans;
}
