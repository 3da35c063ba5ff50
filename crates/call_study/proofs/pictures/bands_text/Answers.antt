use Rattle.std.proofs.Common.{◌∙◌, ap}
use Rattle.draw_shapes.specs.Svg.{svg_of}
use Rattle.judge_verdict.specs.verdict.PairWavesOf.{pair_history}
use Rattle.run_signal.specs.Terns.{tern_rails}
use Rattle.run_step.specs.WavesOf.{wave_pair, waves_history}
use Rattle.call_study.proofs.pictures.bands_text.Goals as goal

pub returns-clause-drawn : goal.returns-clause-drawn
returns-clause-drawn c = record {
  net = c.args.compiled.now.net.now;
  of_line = c.args.compiled.now.of_line;
  history = waves_history (λ x _. tern_rails x) 0 c.in_ok-waves.waves;
  one = c.in_ok-waves.ensures.history;
  gates = wave_pair (λ x _. tern_rails x) 0 c.in_ok-waves.waves;
  trees = c.in_ok-waves.ensures.gates;
  diagram = c.in_ok-diagram.diagram;
  shows = c.in_ok-diagram.ensures.diagram;
  judged = pair_history c.in_ok-judged.judged;
  same =
      c.in_ok-waves.ensures.history.only (pair_history c.in_ok-judged.judged)
      c.in_ok-judged.ensures.history.is;
  rules = c.in_ok-diagram.ensures.rules;
  printed = c.in_ok-markup.ensures ∙ ap (svg_of c.args.made.now) c.in_ok-drawn.ensures;
}
