-- What the parts tell of a tick of the first time, and of the gap behind it.
use Rattle.std.specs.Prelude.{◌&&◌, ◌==◌, ℕ, Bool, true, false, not, List, [], ◌∷◌, Option, None, Some, get_or}
use Rattle.std.specs.Prelude.{map, nat_le, nat_lt, slice_get}
use Rattle.model_history.specs.Rails.{Ends, single}
use Rattle.judge_times.specs.declared.part.{Part.Part, Told.Told}
use Rattle.judge_times.specs.declared.part.Told.TheVariants.{Held, Broken, Fails, Open}

-- the first time of a part
abbrev pub first_of : Part → Ends
first_of part = get_or part.lengths.items 0 (single 0)

-- it is told that a terminal is held
abbrev pub is_held : Option Told → Bool
is_held None = false
is_held (Some Held) = true
is_held (Some Broken) = false
is_held (Some Fails) = false
is_held (Some Open) = false

-- terminal k is not told to be held
abbrev pub is_unheld : ℕ → Part → Bool
is_unheld k part = not (is_held (slice_get part.told.items k))

-- the part has tick t and the next one, and terminal k is not told to be held
abbrev pub is_unheld_over : ℕ → ℕ → Part → Bool
is_unheld_over t k part =
    (nat_le (first_of part).least t && nat_lt t (first_of part).greatest) && is_unheld k part

-- the part tells that a terminal fails at tick t: at its least times, or at all
abbrev pub fails_by : Ends → ℕ → Option Told → Bool
fails_by first t None = false
fails_by first t (Some Held) = false
fails_by first t (Some Broken) = nat_le first.least t && nat_le t first.greatest
fails_by first t (Some Fails) = first.least == t
fails_by first t (Some Open) = false

abbrev pub fails_here : ℕ → ℕ → Part → Bool
fails_here t k part = fails_by (first_of part) t (slice_get part.told.items k)

-- tick t, and each other time at its least
abbrev pub times_at : List Ends → ℕ → List ℕ
times_at [] t = []
times_at (first ∷ rest) t = t ∷ map (λ ends. ends.least) rest
