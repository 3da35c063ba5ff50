use Rattle.std.proofs.Common.{◌≡◌, List, length}
use Rattle.std.specs.Prelude.{slice_get, Some}
use Rattle.model_line.specs.declared.script.Script.{Script}
use Rattle.judge_verdict.specs.verdict.OneEach.{OneEach}
use Rattle.judge_races.specs.Lasting.{AreAllWaves, IsTripOf}
use Rattle.judge_races.proofs.places.trips.Given as goal

abbrev pub invariant-loop-p : goal.invariant-loop-p
invariant-loop-p l = record {
  many : length l.trips.items ≡ l.p;
  are : (scripts : List Script)
      → AreAllWaves l.compiled.line.now scripts l.compiled.net.now.gates l.all
      → OneEach (λ p trip. (script : Script) → slice_get scripts p ≡ Some script
      → IsTripOf l.compiled.line.now script l.k trip) l.p l.trips.items;
}
