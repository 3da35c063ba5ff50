-- The values of a run, tick by tick.
use Rattle.std.specs.Prelude.{◌≡◌, ◌≤◌, ◌+◌, ◌*◌, ℕ, List, Option, Some, None, false, length}
use Rattle.std.specs.Prelude.{slice_get}
use Rattle.model_history.specs.Rails.{Rails, both}
use Rattle.model_logic.specs.Histories.{PairHistory}
use Rattle.net_gates.specs.{declared.gate.GateId.GateId, NetOf.AreGatesOf, NetOf.id_at}

-- a value for each tick and, in it, for each gate; and the gates of each terminal's key and trip
pub record WavesOf (V : Type 0) : Type 0 where
  pub width : ℕ
  pub horizon : ℕ
  pub values : List V
  pub keys : List GateId
  pub trips : List GateId

abbrev pub waves_of : {V : Type 0} → ℕ → ℕ → List V → List GateId → List GateId → WavesOf V
waves_of width horizon values keys trips = record {
  width = width;
  horizon = horizon;
  values = values;
  keys = keys;
  trips = trips;
}

pub record AreWaves {V : Type 0} (waves : WavesOf V) : Type 0 where
  pub count : length waves.values ≡ waves.horizon * waves.width
  pub narrow : waves.width ≤ 512
  pub short : waves.horizon ≤ 4000
  pub keys : AreGatesOf waves.keys waves.width
  pub trips : AreGatesOf waves.trips waves.width
  pub same : length waves.trips ≡ length waves.keys

-- the value of a gate at a tick, if the run has it
abbrev pub wave_value : {V : Type 0} → WavesOf V → ℕ → ℕ → Option V
wave_value waves gate t = slice_get waves.values (t * waves.width + gate)

-- the pair of a value in a lane; off where there is none
abbrev pub pair_in : {V : Type 0} → (V → ℕ → Rails) → ℕ → Option V → Rails
pair_in rails lane None = both false
pair_in rails lane (Some x) = rails x lane

-- the pair of a gate at a tick, in a lane
abbrev pub wave_pair : {V : Type 0} → (V → ℕ → Rails) → ℕ → WavesOf V → ℕ → ℕ → Rails
wave_pair rails lane waves gate t = pair_in rails lane (wave_value waves gate t)

-- the pairs of what each terminal keys and of its trip, in a lane
abbrev pub waves_history : {V : Type 0} → (V → ℕ → Rails) → ℕ → WavesOf V → PairHistory
waves_history rails lane waves = record {
  key = λ k t. wave_pair rails lane waves (id_at waves.keys k) t;
  trip = λ k t. wave_pair rails lane waves (id_at waves.trips k) t;
}
