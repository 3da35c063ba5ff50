-- A run at known numbers.
use Rattle.std.specs.Prelude.{ℕ, Bool}
use Rattle.model_history.specs.Rails.{Ends, single}
use Rattle.run_signal.specs.{declared.level.Level.Level, Levels.level_rails}
use Rattle.model_logic.specs.Histories.{History, must_history}
use Rattle.run_step.specs.WavesOf.{WavesOf, wave_pair, waves_history}

-- the ends of a tick, whatever the lane
abbrev pub ends_of_tick : ℕ → ℕ → Ends
ends_of_tick value lane = single value

-- whether a gate is on at a tick
abbrev pub is_on : WavesOf Level → ℕ → ℕ → Bool
is_on waves gate t = (wave_pair (λ x _. level_rails x) 0 waves gate t).must

-- what each terminal keys, and whether it trips
abbrev pub played : WavesOf Level → History
played waves = must_history (waves_history (λ x _. level_rails x) 0 waves)
