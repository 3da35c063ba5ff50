use Rattle.judge_verdict.specs.verdict.PairWavesOf.{pair_history}
use Rattle.run_signal.specs.Terns.{tern_rails}
use Rattle.run_step.specs.WavesOf.{wave_pair, waves_history}
use Rattle.call_facts.proofs.drawings.bands.Goals as goal

pub returns : goal.returns
returns c = record {
  net = c.args.compiled.now.net.now;
  of_line = c.args.compiled.now.of_line;
  history = waves_history (λ x _. tern_rails x) 0 c.in_ok-waves.waves;
  one = c.in_ok-waves.ensures.history;
  gates = wave_pair (λ x _. tern_rails x) 0 c.in_ok-waves.waves;
  trees = c.in_ok-waves.ensures.gates;
  diagram = c.in_ok-diagram.diagram;
  shows = c.in_ok-diagram.ensures.diagram;
  judged = pair_history c.in_ok-judged.judged;
  same =
      c.in_ok-waves.ensures.history.only (pair_history c.in_ok-judged.judged)
      c.in_ok-judged.ensures.history.is;
  rules = c.in_ok-diagram.ensures.rules;
  drawn = c.in_ok-drawing.ensures;
}
