use Rattle.std.proofs.Common.{◌≤◌, ◌<◌, ℕ}
use Rattle.std.specs.Prelude.{IsFalse}
use Rattle.run_ticks.specs.cases.UnderWaves.{own_wave}
use Rattle.judge_verdict.specs.boxes.Terns.{terns_rails}
use Rattle.judge_cases.proofs.analysis.is_off_in.Given as goal

-- at none of the ticks so far the gate is off for certain
abbrev pub invariant-loop-t : goal.invariant-loop-t
invariant-loop-t l = (s : ℕ) → l.from ≤ s → s < l.t
    → IsFalse (own_wave terns_rails l.lane l.waves l.gate.0 s).may → ⊥
