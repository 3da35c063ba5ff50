-- What the wave of a gate tells of where its tree may be on.
use Rattle.std.proofs.Common.{◌≡◌, ◌<◌, ℕ, List, [], length, ap, ◌∙◌}
use Rattle.std.specs.Prelude.{get_or}
use Rattle.model_history.specs.Rails.{may_of}
use Rattle.model_line.specs.{declared.line.Line.Line, declared.script.Script.Script}
use Rattle.model_logic.specs.Histories.{PairHistory}
use Rattle.net_gates.specs.{declared.gate.Gate.Gate, Formulas.formula_of}
use Rattle.run_signal.specs.declared.tern.Tern.{Tern}
use Rattle.run_waves.specs.waves.Waves.{wave_at}
use Rattle.run_waves.specs.derived.Claims.{AreGateWaves}
use Rattle.judge_races.specs.Lasting.{may_be}

pub wave_tells : (line : Line) (script : Script) (gates : List Gate) (w : PairHistory)
    (waves : List (List Tern)) (wave : List Tern) (gate t : ℕ)
    → wave ≡ get_or waves gate [] → AreGateWaves line script gates w.key waves → gate < length gates
    → t < line.horizon
    → may_of (wave_at wave t) ≡ may_be line script w (formula_of gates gate) t
wave_tells line script gates w waves wave gate t is are within lt =
    ap (λ (l : List Tern). may_of (wave_at l t)) is ∙ ap may_of ((are.each gate within).values t lt)
