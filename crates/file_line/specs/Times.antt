-- Times, as a line file writes them, and the tables that have only times.
use Rattle.std.specs.Prelude.{◌+◌, ◌-◌, ◌*◌, ◌/◌, ◌&&◌, ◌==◌, ◌++◌, ℕ, ℤ, pos, negsuc, List, []}
use Rattle.std.specs.Prelude.{◌∷◌, Option, None, Some, Result, Ok, Err, if◌then◌else◌, nat_le, map}
use Rattle.toml.specs.Data.{Data, integer, array, Members, Items, no_items, item, as_integer}
use Rattle.toml.specs.Data.{get_member}
use Rattle.base_memory.specs.Gives.{◌>>=◌}
use Rattle.model_line.specs.Settings.{table_key, time_key}
use Rattle.model_line.specs.{declared.bounds.Bounds.Bounds, declared.line.Setting.Setting}
use Rattle.file_document.specs.declared.fault.DocumentFault.{DocumentFault}
use Rattle.file_document.specs.declared.fault.DocumentFault.TheVariants as fault
use Rattle.file_document.specs.{Keys.all_known, Keys.required, Keys.table_in}
use Rattle.file_line.specs.Places.{Places, in_table, key_value}

-- How many units of time a tick has: version 1 writes ticks, version 2 microseconds.
abbrev pub units_per_tick : ℕ → ℕ → ℕ
units_per_tick version tick_us = if version == 1 then 1 else tick_us

-- an interval in ticks: the least end rounded down, the greatest rounded up
abbrev pub in_ticks : ℕ → ℕ → ℕ → Bounds
in_ticks unit least greatest =
    record { least = least / unit; greatest = (greatest + (unit - 1)) / unit }

-- Two ends in units: in order, the greatest at most 4,000 ticks, and the least not below `fewest`
-- ticks.
abbrev pub interval_in : List ℕ → ℕ → ℕ → ℤ → ℤ → Result Bounds DocumentFault
interval_in path unit fewest (pos a) (pos b) =
    if nat_le a b && (nat_le b (4000 * unit) && nat_le fewest (a / unit))
    then Ok (in_ticks unit a b) else Err (fault.Range path)
interval_in path unit fewest (pos a) (negsuc b) = Err (fault.Range path)
interval_in path unit fewest (negsuc a) b = Err (fault.Range path)

-- two ends that have to be whole numbers
abbrev pub two_ends : List ℕ → ℕ → ℕ → Option ℤ → Option ℤ → Result Bounds DocumentFault
two_ends path unit fewest (Some a) (Some b) = interval_in path unit fewest a b
two_ends path unit fewest (Some a) None = Err (fault.WrongKind path)
two_ends path unit fewest None b = Err (fault.WrongKind path)

-- an array of exactly two whole numbers
abbrev pub ends_in : List ℕ → ℕ → ℕ → Items → Result Bounds DocumentFault
ends_in path unit fewest (item a (item b no_items)) =
    two_ends path unit fewest (as_integer a) (as_integer b)
ends_in path unit fewest _ = Err (fault.WrongKind path)

-- A time: a whole number n, which means [n, n], or an array of two.
abbrev pub time_in : List ℕ → ℕ → ℕ → Data → Result Bounds DocumentFault
time_in path unit fewest (integer n) = interval_in path unit fewest n n
time_in path unit fewest (array ends) = ends_in path unit fewest ends
time_in path unit fewest _ = Err (fault.WrongKind path)

-- the time under a required key of a table, which stands at the path
unfoldable pub time_there : List ℕ → List ℕ → ℕ → ℕ → Members → Result Bounds DocumentFault
time_there path key unit fewest ms = do
  d ← required path (get_member key ms)
  time_in path unit fewest d

abbrev pub time_at : Places → List ℕ → ℕ → ℕ → Members → Result Bounds DocumentFault
time_at places key unit fewest ms = time_there (places.key key) key unit fewest ms

-- The times of these settings, each under its key, one after another, behind the intervals that
-- were read before.
unfoldable pub times_at :
    Places → List Setting → ℕ → Members → List Bounds → Result (List Bounds) DocumentFault
times_at places [] unit ms done = Ok done
times_at places (x ∷ xs) unit ms done = do
  time ← time_at places (time_key x) unit 0 ms
  times_at places xs unit ms (done ++ time ∷ [])

-- the times of the table at a path, which has these settings and no others
unfoldable pub times_in :
    List ℕ → List Setting → ℕ → Data → List Bounds → Result (List Bounds) DocumentFault
times_in path xs unit d done = do
  ms ← table_in path d
  _ ← all_known path (map time_key xs) ms
  times_at (in_table path) xs unit ms done

-- the key of the table that a group of settings has
abbrev pub group_key : List Setting → List ℕ
group_key [] = []
group_key (x ∷ xs) = table_key x

-- the times of the table that these settings have; no settings have none
unfoldable pub required_times :
    Places → List Setting → ℕ → Members → List Bounds → Result (List Bounds) DocumentFault
required_times places [] unit ms done = Ok done
required_times places (x ∷ xs) unit ms done = do
  d ← key_value places (table_key x) ms
  times_in (places.key (table_key x)) (x ∷ xs) unit d done

-- the times of a table that may be absent, and what stands for them then
abbrev pub times_or :
    List Bounds → List ℕ → List Setting → ℕ → Option Data → List Bounds
    → Result (List Bounds) DocumentFault
times_or absent path xs unit None done = Ok (done ++ absent)
times_or absent path xs unit (Some d) done = times_in path xs unit d done

unfoldable pub optional_times :
    List Bounds → Places → List Setting → ℕ → Members → List Bounds
    → Result (List Bounds) DocumentFault
optional_times absent places xs unit ms done =
    times_or absent (places.key (group_key xs)) xs unit (get_member (group_key xs) ms) done
