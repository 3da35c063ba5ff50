-- Claimed keys, and what is derived from them: the wave of each gate, each key and each trip.
use Rattle.std.specs.Prelude.{◌≡◌, ◌<◌, ℕ, List, [], length, get_or}
use Rattle.model_history.specs.Rails.{Rails}
use Rattle.run_signal.specs.declared.tern.Tern.{Tern}
use Rattle.model_line.specs.{declared.script.Script.Script, declared.line.Line.Line}
use Rattle.model_logic.specs.PairMean.{PairWorld, PairSignals, pair_mean}
use Rattle.model_logic.specs.Choice.{declared_box, pair_world_of}
use Rattle.model_logic.specs.Logic.{key_tree, trip_tree}
use Rattle.net_gates.specs.{declared.gate.Gate.Gate, Formulas.formula_of}
use Rattle.run_waves.specs.waves.Waves.{wave_at, IsWaveOf}

-- the pair of a wave at a tick; off where there is none
abbrev pub pairs_of : List (List Tern) → ℕ → ℕ → Rails
pairs_of waves k t = wave_at (get_or waves k []) t

-- a line and its script over the declared intervals
abbrev pub declared_world : Line → Script → PairWorld
declared_world line script = pair_world_of line script (declared_box line)

-- a wave for each gate: at each tick it has the pair that the interval rules give the gate's tree
-- over the declared intervals, where the keys that are read are the claims
pub record AreGateWaves (line : Line) (script : Script) (gates : List Gate) (claims : PairSignals)
    (waves : List (List Tern)) : Type 0 where
  pub many : length waves ≡ length gates
  pub each : (gate : ℕ) → gate < length gates
      → IsWaveOf (get_or waves gate []) line.horizon
      (λ t. pair_mean (declared_world line script) claims (formula_of gates gate) t)

-- what follows from the claims for each terminal's key, and for its trip
abbrev pub derived_key : Line → Script → PairSignals → PairSignals
derived_key line script claims k t =
    pair_mean (declared_world line script) claims (key_tree line k) t

abbrev pub derived_trip : Line → Script → PairSignals → PairSignals
derived_trip line script claims k t =
    pair_mean (declared_world line script) claims (trip_tree line k) t
