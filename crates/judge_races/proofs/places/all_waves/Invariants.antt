use Rattle.std.proofs.Common.{◌≡◌, length}
use Rattle.std.specs.Prelude.{slice_get, Some}
use Rattle.model_line.specs.declared.script.Script.{Script}
use Rattle.run_waves.specs.waves.Waves.{AreWaves}
use Rattle.judge_verdict.specs.verdict.OneEach.{OneEach}
use Rattle.judge_races.specs.Lasting.{AreHistoryWaves}
use Rattle.judge_races.proofs.places.all_waves.Given as goal

abbrev pub invariant-loop-p : goal.invariant-loop-p
invariant-loop-p l = record {
  each : OneEach (λ p waves. AreWaves (length l.compiled.net.now.gates) l.compiled.line.now.horizon
      waves.items) l.p l.all.items;
  are : OneEach (λ p waves. (script : Script) → slice_get l.scripts p ≡ Some script
      → AreHistoryWaves l.compiled.line.now script l.compiled.net.now.gates waves.items) l.p l.all.items;
}
