-- A run at known numbers.
use Rattle.std.specs.Prelude.{◌≡◌, ℕ, Bool, List, Option, Some, slice_get}
use Rattle.std.proofs.Common.{ap}
use Rattle.model_history.specs.Rails.{rails_at, must_of}
use Rattle.run_signal.specs.{declared.level.Level.Level, Lanes.in_lane, Levels.level_rails}
use Rattle.run_signal.specs.SentKeys.{SentKeys}
use Rattle.model_logic.specs.Histories.{History, must_history}
use Rattle.run_changes.specs.{changes.LaneLaws.lane_at, changes.Tracks.pair_of, changes.Tracks.tracks_history}

-- whether a signal is on at a tick
abbrev pub is_on : SentKeys Level → ℕ → Bool
is_on track t = (rails_at (in_lane (λ x _. level_rails x) 0 track.keys) t).must

-- it is as the value at the tick
pub on_is : (track : SentKeys Level) (t : ℕ) (level : Level) → slice_get track.keys t ≡ Some level
    → is_on track t ≡ (level_rails level).must
on_is track t level at = ap must_of (lane_at (λ x _. level_rails x) track.keys level 0 t at)

-- whether the signal of a place in a list of tracks is on at a tick; off where there is none
abbrev pub is_shown : List (SentKeys Level) → ℕ → ℕ → Bool
is_shown tracks k t = (pair_of (λ x _. level_rails x) 0 t (slice_get tracks k)).must

-- it is what its track shows
pub shown_is : (tracks : List (SentKeys Level)) (k : ℕ) (track : SentKeys Level)
    → slice_get tracks k ≡ Some track → is_shown tracks k ≡ is_on track
shown_is tracks k track at =
    ap (λ (o : Option (SentKeys Level)). λ (t : ℕ). (pair_of (λ x _. level_rails x) 0 t o).must) at

-- what each terminal keys, and whether it trips
abbrev pub played : List (SentKeys Level) → List (SentKeys Level) → History
played keys trips = must_history (tracks_history (λ x _. level_rails x) 0 keys trips)
