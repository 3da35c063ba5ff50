-- The pairs of what each terminal keys and of its trip, tick by tick.
use Rattle.std.specs.Prelude.{◌≡◌, ℕ, List, [], Some, length, map, get_or, slice_get}
use Rattle.model_history.specs.Rails.{Rails, rails_at}
use Rattle.run_signal.specs.{declared.tern.Tern.Tern, Terns.tern_rails}
use Rattle.run_signal.specs.SentKeys.{SentKeys}
use Rattle.model_logic.specs.{PairMean.PairSignals, Histories.PairHistory}
use Rattle.run_waves.specs.waves.Waves.{IsWaveOf}
use Rattle.run_changes.specs.changes.Tracks.{pair_of}

-- for each terminal the pair of its key at each tick below the horizon, and that of its trip
pub record PairWavesOf : Type 0 where
  pub terminals : ℕ
  pub horizon : ℕ
  pub keys : List (List Rails)
  pub trips : List (List Rails)

-- the pairs of waves, tick by tick
abbrev pub pairs_of : List (List Tern) → List (List Rails)
pairs_of waves = map (λ wave. map tern_rails wave) waves

-- what the waves of keys and those of trips tell of the ticks below the horizon
abbrev pub told_by : ℕ → List (List Tern) → List (List Tern) → PairWavesOf
told_by horizon keys trips = record {
  terminals = length keys;
  horizon = horizon;
  keys = pairs_of keys;
  trips = pairs_of trips;
}

-- they have these pairs
pub record AreWavesOf (terminals horizon : ℕ) (pairs : PairSignals) (waves : List (List Tern))
    : Type 0 where
  pub count : length waves ≡ terminals
  pub each : (k : ℕ) (wave : List Tern) → slice_get waves k ≡ Some wave
      → IsWaveOf wave horizon (pairs k)

-- the pairs of tracks, tick by tick; off where there is none
abbrev pub track_pairs : List (SentKeys Tern) → PairSignals
track_pairs tracks k t = pair_of (λ x _. tern_rails x) 0 t (slice_get tracks k)

-- the pair of a terminal at a tick; off where there is none
abbrev pub pair_at : List (List Rails) → PairSignals
pair_at pairs k t = rails_at (get_or pairs k []) t

-- the interval history that is told
abbrev pub pair_history : PairWavesOf → PairHistory
pair_history w = record { key = pair_at w.keys; trip = pair_at w.trips }
