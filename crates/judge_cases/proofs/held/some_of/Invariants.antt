use Rattle.std.proofs.Common.{◌≡◌, ◌<◌, ℕ}
use Rattle.model_history.specs.Elements.{some_below}
use Rattle.run_ticks.specs.cases.UnderWaves.{wave_pair}
use Rattle.judge_verdict.specs.boxes.Terns.{terns_rails}
use Rattle.judge_cases.proofs.held.some_of.Given as goal

abbrev pub invariant-loop-t : goal.invariant-loop-t
invariant-loop-t l = record {
  must : (lane : ℕ) → lane < 64 → (terns_rails l.lanes lane).must
      ≡ some_below (λ t. (wave_pair terns_rails lane l.analysis.waves l.gate.0 t).must) l.t;
  may : (lane : ℕ) → lane < 64 → (terns_rails l.lanes lane).may
      ≡ some_below (λ t. (wave_pair terns_rails lane l.analysis.waves l.gate.0 t).may) l.t;
}
