-- The values of a key or a trip, with the ticks at which they change.
use Rattle.run_signal.specs.Signals.{SignalOf}
use Rattle.std.specs.Prelude.{◌≡◌, ◌<◌, ◌≤◌, ◌+◌, ◌-◌, ◌⊎◌, ◌++◌, ℕ, suc, List, Some, length}
use Rattle.std.specs.Prelude.{slice_get, replicate}
use Rattle.model_history.specs.Rails.{Rails, Ends, rails_at}
use Rattle.run_signal.specs.Lanes.{in_lane}

-- the number is one of these
abbrev pub IsOneOf : List ℕ → ℕ → Type 0
IsOneOf changes r = (i : ℕ) × (slice_get changes i ≡ Some r)

-- no later number is less
abbrev pub AreAscending : List ℕ → Type 0
AreAscending numbers =
    (i j a b : ℕ) → i ≤ j → slice_get numbers i ≡ Some a → slice_get numbers j ≡ Some b → a ≤ b

-- at each tick the values are those of the tick before in each lane, or the tick is one of these
abbrev pub ChangeAt : {V S : Type 0} → SignalOf V S → List ℕ → List V → Type 0
ChangeAt signal changes values =
    (r : ℕ) → suc r < length values
    → IsOneOf changes (suc r)
    ⊎ ((lane : ℕ) → lane < signal.lanes
    → rails_at (in_lane signal.rails lane values) (suc r)
    ≡ rails_at (in_lane signal.rails lane values) r)

-- a track: its changes are told in order, and both lists have room up to the horizon
pub record IsTrack {V S : Type 0} (signal : SignalOf V S)
    (values : List V) (room : ℕ) (changes : List ℕ) (changes_room : ℕ) (horizon : ℕ) : Type 0 where
  pub has_room : horizon ≤ room
  pub has_changes_room : horizon ≤ changes_room
  pub short : horizon ≤ 4000
  pub fits : length values ≤ horizon
  pub few : length changes ≤ length values
  pub inside : (i c : ℕ) → slice_get changes i ≡ Some c → c < length values
  pub ascending : AreAscending changes
  pub told : ChangeAt signal changes values

-- these values, and then the last one for the other ticks of so many
abbrev pub all_values : {V : Type 0} → List V → V → ℕ → List V
all_values values last len = values ++ replicate (len - length values) last

-- a track as it is held: the values before the last change, and the last one
pub record IsHeldTrack {V S : Type 0} (signal : SignalOf V S) (values : List V) (last : V)
    (len room : ℕ) (changes : List ℕ) (changes_room horizon : ℕ) : Type 0 where
  pub before : length values ≤ len - 1
  pub track : IsTrack signal (all_values values last len) room changes changes_room horizon

-- the last of the values is this one in each lane
pub record IsLast {V S : Type 0} (signal : SignalOf V S) (values : List V) (value : V)
    : Type 0 where
  pub n : ℕ
  pub count : length values ≡ suc n
  pub same : (lane : ℕ) → lane < signal.lanes
      → rails_at (in_lane signal.rails lane values) n ≡ signal.rails value lane

-- `end` is after t, at most the bound, and no number after t is below it
pub record IsNextAfter (changes : List ℕ) (t bound end : ℕ) : Type 0 where
  pub later : t < end
  pub limited : end ≤ bound
  pub least : (i c : ℕ) → slice_get changes i ≡ Some c → t < c → end ≤ c

-- from tick t until `end`, which is at most the bound, the history has one value
pub record StaysUntil (u : ℕ → Rails) (t bound end : ℕ) : Type 0 where
  pub later : t < end
  pub limited : end ≤ bound
  pub same : (r : ℕ) → t ≤ r → r < end → u r ≡ u t

-- the history is the same from the greatest delay before tick t to the tick before it
pub record IsSteadySince (u : ℕ → Rails) (e : Ends) (t : ℕ) : Type 0 where
  pub ordered : e.least ≤ e.greatest
  pub past : e.greatest ≤ t
  pub same : (r : ℕ) → t ≤ r + e.greatest → r < t → u r ≡ u (t - 1)
