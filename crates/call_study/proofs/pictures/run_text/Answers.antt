use Rattle.std.proofs.Common.{◌∙◌, ℕ, List, ap, subst}
use Rattle.model_history.specs.Rails.{both}
use Rattle.model_timing.specs.declared.step.Step.{Step}
use Rattle.draw_run.specs.{diagram.Diagrams.IsDiagramOf, diagram.Traces.known_history, diagram.Traces.pairs_shown}
use Rattle.draw_shapes.specs.Svg.{svg_of}
use Rattle.run_step.specs.Played.{is_on, played}
use Rattle.call_study.proofs.pictures.run_text.Goals as goal

pub returns-clause-drawn : goal.returns-clause-drawn
returns-clause-drawn c = record {
  net = c.args.compiled.now.net.now;
  of_line = c.args.compiled.now.of_line;
  history = played c.in_ok-waves.waves;
  one = c.in_ok-waves.ensures.played;
  gates = is_on c.in_ok-waves.waves;
  trees = c.in_ok-waves.ensures.gates;
  diagram = c.in_ok-diagram.diagram;
  shows =
      subst (λ (steps : List (Step ℕ)).
      IsDiagramOf c.args.compiled.now.line.now c.args.compiled.now.net.now.gates c.args.script.now
      (pairs_shown (known_history (played c.in_ok-waves.waves))
      (λ gate t. both (is_on c.in_ok-waves.waves gate t)))
      steps c.args.which c.in_ok-diagram.diagram)
      c.steps.ensures.same c.in_ok-diagram.ensures.diagram;
  no_rules = c.in_ok-diagram.ensures.rules;
  printed = c.in_ok-markup.ensures ∙ ap (svg_of c.args.made.now) c.in_ok-drawn.ensures;
}
