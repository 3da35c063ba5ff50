use Rattle.std.proofs.Common.{◌≡◌, ℕ, ◌<◌, length, sym, ◌∙◌, subst, arith}
use Rattle.model_logic.specs.PairMean.{PairWorld, PairSignals}
use Rattle.model_logic.specs.{Logic.key_tree, Solution.the_keys, Choice.pair_world_of}
use Rattle.run_changes.specs.changes.Tracks.{tracks_history, trips_of}
use Rattle.run_step.specs.{GatePairs.GateSignals, GatePairs.line_pairs, LaneBox.lane_box}
use Rattle.run_step.specs.{LaneBox.lane_world, Ticks.AreSent}
use Rattle.run_step.specs.PointLaws.{exact_at}
use Rattle.run_changes.proofs.changes_lemmas.TrackLaws.{kept_pair, kept_history}
use Rattle.run_changes.proofs.changes.tracks.run_tracks.Goals as goal

pub returns-clause-keys : goal.returns-clause-keys
returns-clause-keys g c =
    let h = c.args.compiled.now.line.now.horizon in
    let last : c.take_until.result ≡ h =
    omega (arith, c.take_until.ensures.reached, c.take_until.ensures.fits) in
    subst
    (λ (m : ℕ). AreSent (length c.args.compiled.now.net.now.keys) h m
    c.take_until.new.kept.keys.items)
    last c.take_until.ensures.kept.keys

pub returns-clause-trips : goal.returns-clause-trips
returns-clause-trips g c =
    let h = c.args.compiled.now.line.now.horizon in
    let last : c.take_until.result ≡ h =
    omega (arith, c.take_until.ensures.reached, c.take_until.ensures.fits) in
    subst
    (λ (m : ℕ). AreSent (length c.args.compiled.now.net.now.trips) h m
    c.take_until.new.kept.trips.items)
    last c.take_until.ensures.kept.trips

pub returns-clause-history : goal.returns-clause-history
unfolding pair_world_of lane_box
returns-clause-history g c = λ lane inside.
    let line = c.args.compiled.now.line.now in
    let script = c.args.script.now in
    let spans = c.args.spans.now in
    let steps = c.args.steps.now in
    let net = c.args.compiled.now.net.now in
    let of_line = c.args.compiled.now.of_line in
    let h = line.horizon in
    let last : c.take_until.result ≡ h =
    omega (arith, c.take_until.ensures.reached, c.take_until.ensures.fits) in
    let ends = g.V.Signal.signal.ends in
    let rails = g.V.Signal.signal.rails in
    let w : ℕ → PairWorld = λ l. lane_world ends line script spans steps l in
    let key : ℕ → PairSignals = λ l. the_keys (w l) (key_tree line) in
    let u : ℕ → GateSignals = λ l. line_pairs line script (lane_box ends line spans steps l) net in
    let kept = c.take_until.new.kept in
    let stands =
    (c.take_until.ensures.stands script (c.in_ok-kept.ensures.stands)).tracked lane inside in
    kept_history c.line_laws.ensures c.gates_stand_for_their_trees.ensures line script (lane_box ends line spans steps lane) (c.requires.delayed lane inside)
    net of_line
    (tracks_history rails lane kept.keys.items kept.trips.items)
    (λ k t kn lt. kept_pair c.history_laws.ensures rails lane (key lane) (length net.keys) h c.take_until.result k t
    kept.keys.items c.take_until.ensures.kept.keys stands.keys_kept
    (subst (λ (n : ℕ). k < n) (sym of_line.terminals) kn)
    (omega (arith, lt, last)))
    (λ k t kn lt. kept_pair c.history_laws.ensures rails lane (trips_of net (u lane)) (length net.trips) h c.take_until.result k t
    kept.trips.items c.take_until.ensures.kept.trips stands.trips_kept
    (subst (λ (n : ℕ). k < n) (sym (of_line.laws.same ∙ of_line.terminals)) kn)
    (omega (arith, lt, last)))

pub returns-clause-exact : goal.returns-clause-exact
returns-clause-exact g c = λ lane choice inside point.
    exact_at c.line_laws.ensures c.args.compiled.now.line.now c.args.script.now _
    (c.requires.delayed lane inside) choice point _
    (returns-clause-history g c lane inside).is

pub fresh_kept-requires : goal.fresh_kept-requires
fresh_kept-requires g c = record { spans = c.requires.spans }

pub take_until-requires-clause-kept : goal.take_until-requires-clause-kept
take_until-requires-clause-kept g c = c.in_ok-kept.ensures.can

pub take_until-requires-clause-can : goal.take_until-requires-clause-can
take_until-requires-clause-can g c = record {
  ascending = c.requires.ascending;
  delayed = c.requires.delayed;
  one_each = c.requires.spans;
}
