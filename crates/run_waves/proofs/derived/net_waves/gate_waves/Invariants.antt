use Rattle.std.proofs.Common.{◌≡◌, ◌<◌, ℕ, [], length}
use Rattle.std.specs.Prelude.{get_or}
use Rattle.model_logic.specs.PairMean.{pair_mean}
use Rattle.net_gates.specs.Formulas.{formula_of}
use Rattle.run_waves.specs.waves.Waves.{IsWaveOf}
use Rattle.run_waves.specs.derived.Claims.{pairs_of, declared_world}
use Rattle.run_waves.proofs.derived.net_waves.gate_waves.Given as goal

abbrev pub invariant-loop-i : goal.invariant-loop-i
invariant-loop-i l = record {
  many : length l.waves.items ≡ l.i;
  each : (gate : ℕ) → gate < l.i → IsWaveOf (get_or l.waves.items gate [])
      l.compiled.line.now.horizon
      (λ t. pair_mean (declared_world l.compiled.line.now l.script) (pairs_of l.keys)
      (formula_of l.compiled.net.now.gates gate) t);
}
