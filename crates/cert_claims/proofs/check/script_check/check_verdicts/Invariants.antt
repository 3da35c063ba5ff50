use Rattle.std.proofs.Common.{◌≡◌, ◌<◌, ℕ, Some, map}
use Rattle.std.specs.Prelude.{slice_get}
use Rattle.model_logic.specs.PairMean.{PairSignals}
use Rattle.cert_claims.specs.text.Grammar.{Verdict, verdict_in}
use Rattle.run_waves.specs.derived.Claims.{AreGateWaves, derived_trip}
use Rattle.cert_claims.specs.check.Verdicts.{IsSupported}
use Rattle.cert_claims.proofs.check.script_check.check_verdicts.Given as goal

abbrev pub invariant-loop-i : goal.invariant-loop-i
invariant-loop-i l =
    (claims : PairSignals) → AreGateWaves l.compiled.line.now l.script l.compiled.net.now.gates
    claims l.waves
    → (k : ℕ) (verdict : Verdict) → k < l.i → slice_get (map verdict_in l.verdicts) k ≡ Some verdict
    → IsSupported l.compiled.line.now l.script k
    (derived_trip l.compiled.line.now l.script claims k) verdict
