use Rattle.std.proofs.Common.{ℕ, ◌<◌}
use Rattle.model_line.specs.declared.script.Script.{Script}
use Rattle.run_waves.specs.derived.Claims.{AreGateWaves, pairs_of}
use Rattle.judge_match.specs.matching.Clash.{IsTerminalAllowed}
use Rattle.judge_match.proofs.matching.clash.first_clash.Given as goal

abbrev pub invariant-loop-k : goal.invariant-loop-k
invariant-loop-k l =
    (script : Script) → AreGateWaves l.compiled.line.now script l.compiled.net.now.gates
    (pairs_of l.seen.keys.items) l.waves
    → (k : ℕ) → k < l.k → IsTerminalAllowed l.compiled.line.now script l.seen k
