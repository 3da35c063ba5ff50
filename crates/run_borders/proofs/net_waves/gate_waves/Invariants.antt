use Rattle.std.proofs.Common.{[]}
use Rattle.model_logic.specs.PairMean.{pair_mean}
use Rattle.net_gates.specs.Formulas.{formula_of}
use Rattle.run_waves.specs.waves.Waves.{IsWaveOf}
use Rattle.run_waves.specs.derived.Claims.{pairs_of}
use Rattle.run_borders.specs.LooseRuns.{line_of, net_of, world_of}
use Rattle.run_borders.proofs.Lists.{Each}
use Rattle.run_borders.proofs.net_waves.gate_waves.Given as goal

abbrev pub invariant-loop-i : goal.invariant-loop-i
invariant-loop-i l = record {
  waves : Each (λ gate wave. IsWaveOf wave (line_of l.run).horizon
      (λ t. pair_mean (world_of l.run) (pairs_of l.keys) (formula_of (net_of l.run).gates gate) t))
      [] l.waves.items l.i;
}
