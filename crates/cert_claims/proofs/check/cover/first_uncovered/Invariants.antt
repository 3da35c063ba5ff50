use Rattle.std.proofs.Common.{ℕ, ◌<◌}
use Rattle.model_line.specs.declared.script.Script.{Script}
use Rattle.run_waves.specs.derived.Claims.{AreGateWaves, pairs_of}
use Rattle.cert_claims.specs.check.Verdicts.{IsKeyCovered}
use Rattle.cert_claims.proofs.check.cover.first_uncovered.Given as goal

abbrev pub invariant-loop-k : goal.invariant-loop-k
invariant-loop-k l =
    (script : Script) → AreGateWaves l.compiled.line.now script l.compiled.net.now.gates
    (pairs_of l.keys) l.waves
    → (k : ℕ) → k < l.k → IsKeyCovered l.compiled.line.now script (pairs_of l.keys) k
