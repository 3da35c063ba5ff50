use Rattle.std.proofs.Common.{List, ℕ, subst}
use Rattle.model_history.specs.Rails.{both}
use Rattle.model_timing.specs.declared.step.Step.{Step}
use Rattle.draw_run.specs.{diagram.Diagrams.IsDiagramOf, diagram.Traces.known_history, diagram.Traces.pairs_shown}
use Rattle.draw_shapes.specs.declared.rows.Rows.TheVariants as rows
use Rattle.run_step.specs.Played.{is_on, played}
use Rattle.call_facts.proofs.drawings.play.Goals as goal

pub returns : goal.returns
returns c = record {
  net = c.args.compiled.now.net.now;
  of_line = c.args.compiled.now.of_line;
  history = played c.in_ok-waves.waves;
  one = c.in_ok-waves.ensures.played;
  gates = is_on c.in_ok-waves.waves;
  trees = c.in_ok-waves.ensures.gates;
  diagram = c.in_ok-diagram.diagram;
  shows =
      subst (λ (steps : List (Step ℕ)).
      IsDiagramOf c.args.compiled.now.line.now c.args.compiled.now.net.now.gates c.args.script.now
      (pairs_shown (known_history (played c.in_ok-waves.waves))
      (λ gate t. both (is_on c.in_ok-waves.waves gate t)))
      steps rows.Changing c.in_ok-diagram.diagram)
      c.steps-steps.ensures.same c.in_ok-diagram.ensures.diagram;
  drawn = c.in_ok-drawing.ensures;
}
