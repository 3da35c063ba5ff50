-- Races: which operands have ended where a conjunction lacks the least.
use Rattle.std.specs.Prelude.{◌≡◌, ◌≤◌, ◌<◌, ◌⊎◌, ◌&&◌, ℕ, zero, suc, Bool, false, not, max, map}
use Rattle.std.specs.Prelude.{List, [], ◌∷◌, Option, Some, None, option_map, nat_eq, get_or}
use Rattle.std.specs.Prelude.{slice_get, Vec, IsTrue}
use Rattle.std.specs.declared.alloc.Global.{Global}
use Rattle.judge_races.specs.declared.races.Race.{Race}

-- what an operand lacks, tick by tick
abbrev pub Column : Type 0
Column = List (Option ℕ)

abbrev pub lack_in : ℕ → Column → Option ℕ
lack_in t column = get_or column t None

abbrev pub lacks_at : List Column → ℕ → List (Option ℕ)
lacks_at columns t = map (lack_in t) columns

-- the greatest; nothing where one is nothing
abbrev pub most : List (Option ℕ) → Option ℕ
most [] = Some 0
most (None ∷ more) = None
most (Some d ∷ more) = option_map (max d) (most more)

abbrev pub is_lack : ℕ → Option ℕ → Bool
is_lack m None = false
is_lack m (Some d) = nat_eq d m

-- what a conjunction lacks at a tick
abbrev pub lack_of : List Column → ℕ → Option ℕ
lack_of columns t = most (lacks_at columns t)

-- which of the operands lack so much
abbrev pub ends_at : List Column → ℕ → ℕ → List Bool
ends_at columns t m = map (λ column. is_lack m (lack_in t column)) columns

abbrev pub begins_in : ℕ → Column → Bool
begins_in zero column = is_lack 0 (lack_in 0 column)
begins_in (suc t) column =
    is_lack 0 (lack_in (suc t) column) && not (is_lack 0 (lack_in t column))

-- which come on at a tick
abbrev pub begins_at : List Column → ℕ → List Bool
begins_at columns t = map (begins_in t) columns

-- the first is as bad as the second, or worse: it lacks less, or no more and comes no later, by
-- places and then by ticks
abbrev pub IsAsBad : (lack place tick m p t : ℕ) → Type 0
IsAsBad lack place tick m p t =
    (lack < m) ⊎ ((lack ≡ m) × ((place < p) ⊎ ((place ≡ p) × (tick ≤ t))))

-- it is of this tick
pub record IsAt (columns : ℕ → List Column) (race : Race) : Type 0 where
  pub lack : lack_of (columns race.place) race.tick ≡ Some race.lack
  pub ends : race.ends.items ≡ ends_at (columns race.place) race.tick race.lack
  pub begins : race.begins.items ≡ begins_at (columns race.place) race.tick

-- Of the ticks of places that are looked at, the worst at which these operands have ended: where
-- they lack the most, what they lack is the least.
pub record IsRace (columns : ℕ → List Column) (IsLookedAt : ℕ → ℕ → Type 0) (race : Race)
    : Type 0 where
  pub there : IsLookedAt race.place race.tick
  pub is : IsAt columns race
  pub worst : (p t m : ℕ) → IsLookedAt p t → lack_of (columns p) t ≡ Some m
      → race.ends.items ≡ ends_at (columns p) t m
      → IsAsBad race.lack race.place race.tick m p t

-- the race at this place is of these operands
pub record HasRaceAt (races : List Race) (ends : List Bool) (at : ℕ) : Type 0 where
  pub race : Race
  pub there : slice_get races at ≡ Some race
  pub same : race.ends.items ≡ ends

abbrev pub HasNone : List Race → List Bool → Type 0
HasNone races ends = (i : ℕ) → ¬ (HasRaceAt races ends i)

-- one of the races is of these operands
pub record HasRace (races : List Race) (ends : List Bool) : Type 0 where
  pub at : ℕ
  pub is : HasRaceAt races ends at

-- one for each set of operands that lack the most at some of the ticks
pub record AreRaces (columns : ℕ → List Column) (IsLookedAt : ℕ → ℕ → Type 0) (races : List Race)
    : Type 0 where
  pub each : (i : ℕ) (race : Race) → slice_get races i ≡ Some race
      → IsRace columns IsLookedAt race
  pub all : (p t m : ℕ) → IsLookedAt p t → lack_of (columns p) t ≡ Some m
      → HasRace races (ends_at (columns p) t m)
  pub apart : (i j : ℕ) (a b : Race) → slice_get races i ≡ Some a → slice_get races j ≡ Some b
      → a.ends.items ≡ b.ends.items → i ≡ j

-- what operands lack, as code has it
abbrev pub columns_of : List (Vec (Option ℕ) Global) → List Column
columns_of columns = map (λ column. column.items) columns

-- the ticks below the horizon of places that count, up to a place, and of it up to a tick
pub record IsLookedAt (counts : ℕ → Bool) (horizon place tick p t : ℕ) : Type 0 where
  pub counted : IsTrue (counts p)
  pub before : ((p < place) × (t < horizon)) ⊎ ((p ≡ place) × (t < tick))
