-- The values of a run under levels, tick by tick.
use Rattle.std.specs.Prelude.{◌≡◌, ◌+◌, ◌*◌, ◌≤◌, ℕ, List, length, slice_get}
use Rattle.model_history.specs.Rails.{Rails}
use Rattle.run_step.specs.WavesOf.{pair_in}

-- a value for each tick and, in it, for each gate, with what was put; and each gate's own value
pub record UnderWavesOf (V : Type 0) : Type 0 where
  pub width : ℕ
  pub horizon : ℕ
  pub values : List V
  pub owns : List V

abbrev pub under_waves : {V : Type 0} → ℕ → ℕ → List V → List V → UnderWavesOf V
under_waves width horizon values owns = record {
  width = width;
  horizon = horizon;
  values = values;
  owns = owns;
}

pub record AreUnderWaves {V : Type 0} (waves : UnderWavesOf V) : Type 0 where
  pub count : length waves.values ≡ waves.horizon * waves.width
  pub owns : length waves.owns ≡ waves.horizon * waves.width
  pub narrow : waves.width ≤ 512
  pub short : waves.horizon ≤ 4000

-- the place of a gate's value at a tick
abbrev pub value_at : ℕ → ℕ → ℕ → ℕ
value_at width gate t = t * width + gate

-- the pair of a gate at a tick, in a lane, and its own
abbrev pub wave_pair : {V : Type 0} → (V → ℕ → Rails) → ℕ → UnderWavesOf V → ℕ → ℕ → Rails
wave_pair rails lane waves gate t =
    pair_in rails lane (slice_get waves.values (value_at waves.width gate t))

abbrev pub own_wave : {V : Type 0} → (V → ℕ → Rails) → ℕ → UnderWavesOf V → ℕ → ℕ → Rails
own_wave rails lane waves gate t =
    pair_in rails lane (slice_get waves.owns (value_at waves.width gate t))
