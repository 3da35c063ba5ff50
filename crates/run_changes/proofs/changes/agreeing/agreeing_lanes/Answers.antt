use Rattle.run_step.specs.LaneBox.{lane_box}
use Rattle.run_changes.proofs.changes_lemmas.AgreeLaws.{only_told}
use Rattle.run_changes.proofs.changes.agreeing.agreeing_lanes.Goals as goal

pub returns : goal.returns
returns g c = record {
  agreeing = λ lane choice inside point.
      let line = c.args.compiled.now.line.now in
      let script = c.args.script.now in
      let spans = c.args.spans.now in
      let steps = c.args.steps.now in
      only_told c.line_laws.ensures c.gates_stand_for_their_trees.ensures line script
      (lane_box g.V.Signal.signal.ends line spans steps lane) (c.requires.delayed lane inside)
      c.args.compiled.now.net.now
      c.args.compiled.now.of_line choice point c.args.recorded.now.keys.items
      c.args.recorded.now.trips.items
      (g.V.Signal.signal.rails c.take_agreeing-lanes.result lane)
      (c.take_agreeing-lanes.ensures script (c.in_ok-kept.ensures.stands) lane inside);
}
