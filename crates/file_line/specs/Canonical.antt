-- The table that is printed for a line.
use Rattle.std.specs.Prelude.{◌*◌, ◌+◌, ℕ, pos, List, [], ◌∷◌, map, get_or}
use Rattle.std.specs.Prelude.{codes, unwrap_or}
use Rattle.std.specs.Ordering.{nat_cmp, match_ordering}
use Rattle.std.specs.Cmp.Lexicographic.{slice_cmp}
use Rattle.toml.specs.Data.{Data, string, integer, boolean, array, table, Members, no_members}
use Rattle.toml.specs.Data.{member, no_items, item}
use Rattle.toml.specs.View.{items_of}
use Rattle.model_line.specs.declared.line.Scheme.TheVariants.{Pott, Putt, Dcb, Dcub, Dtt}
use Rattle.model_line.specs.Settings.{table_key, time_key, terminal_groups, receiver_settings}
use Rattle.model_line.specs.Intervals.{leasts, greatests}
use Rattle.model_line.specs.{declared.line.Scheme.Scheme, declared.line.Line.Line}
use Rattle.model_line.specs.{declared.line.Terminal.Terminal, declared.line.Channel.Channel}
use Rattle.model_line.specs.{declared.line.Owner.Owner, declared.line.Setting.Setting}
use Rattle.model_line.specs.{declared.line.Setting.TheVariants.Delay, declared.bounds.Bounds.Bounds}
use Rattle.model_line.specs.{Parameters.param_number, ParamNames.name_at}
use Rattle.model_line.specs.declared.line.Owner.TheVariants as owner
use Rattle.file_line.specs.Times.{units_per_tick}

-- a table with a value under one more key, at its place in the order of the keys
abbrev pub put_member : List ℕ → Data → Members → Members
put_member k d no_members = member k d no_members
put_member k d (member l e ms) =
    match_ordering (slice_cmp nat_cmp k l) (member k d (member l e ms)) (member l d ms)
    (member l e (put_member k d ms))

-- a table with values under these keys besides
abbrev pub put_all : List (List ℕ × Data) → Members → Members
put_all [] ms = ms
put_all (pair ∷ pairs) ms = put_all pairs (put_member pair.0 pair.1 ms)

-- the table of these keys and values
abbrev pub table_of : List (List ℕ × Data) → Members
table_of pairs = put_all pairs no_members

-- a time: an array of its two ends, in units
abbrev pub time_data : ℕ → Bounds → Data
time_data unit interval =
    array (item (integer (pos (interval.least * unit)))
    (item (integer (pos (interval.greatest * unit))) no_items))

-- the interval of parameter i
abbrev pub interval_of : Line → ℕ → Bounds
interval_of line i =
    record {
      least = get_or (leasts line.params.items) i 0;
      greatest = get_or (greatests line.params.items) i 0;
    }

-- the interval of an owner's setting
abbrev pub setting_interval : Line → Owner → Setting → Bounds
setting_interval line o x = interval_of line (unwrap_or (param_number line o x) 0)

-- the time of a setting, under its key
abbrev pub setting_pair : ℕ → Line → Owner → Setting → List ℕ × Data
setting_pair unit line o x = (time_key x, time_data unit (setting_interval line o x))

-- the table of the times of some settings
unfoldable pub times_data : ℕ → Line → Owner → List Setting → Data
times_data unit line o xs = table (table_of (map (setting_pair unit line o) xs))

-- a table with that of these settings besides; no settings have none
abbrev pub put_times : ℕ → Line → Owner → List Setting → Members → Members
put_times unit line o [] ms = ms
put_times unit line o (x ∷ xs) ms = put_member (table_key x) (times_data unit line o (x ∷ xs)) ms

-- and with those of these groups
abbrev pub put_groups : ℕ → Line → Owner → List (List Setting) → Members → Members
put_groups unit line o [] ms = ms
put_groups unit line o (xs ∷ groups) ms = put_groups unit line o groups (put_times unit line o xs ms)

-- the members of terminal k
abbrev pub terminal_members : ℕ → Line → ℕ → Terminal → Members
terminal_members unit line k t =
    put_groups unit line (owner.Terminal k) (terminal_groups line.scheme t)
    (table_of ((codes "name", string t.name) ∷ []))

-- the members of channel c
abbrev pub channel_members : ℕ → Line → ℕ → Channel → Members
channel_members unit line c h =
    put_times unit line (owner.Channel c) (receiver_settings line.scheme)
    (table_of
    ((codes "from", string (name_at line.terminals.items h.from))
    ∷ (codes "to", string (name_at line.terminals.items h.to))
    ∷ setting_pair unit line (owner.Channel c) Delay ∷ []))

-- a table for each of these, the first of which has the number k
abbrev pub tables_from : {X : Type 0} → (ℕ → X → Members) → ℕ → List X → List Data
tables_from members k [] = []
tables_from members k (x ∷ xs) = table (members k x) ∷ tables_from members (k + 1) xs

-- the tables of the terminals
abbrev pub terminals_data : ℕ → Line → List Data
terminals_data unit line = tables_from (terminal_members unit line) 0 line.terminals.items

-- the tables of the channels
abbrev pub channels_data : ℕ → Line → List Data
channels_data unit line = tables_from (channel_members unit line) 0 line.channels.items

-- a scheme as it is written
abbrev pub scheme_text : Scheme → List ℕ
scheme_text Pott = codes "pott"
scheme_text Putt = codes "putt"
scheme_text Dcb = codes "dcb"
scheme_text Dcub = codes "dcub"
scheme_text Dtt = codes "dtt"

-- the values at the top
abbrev pub head_pairs : ℕ → Line → List (List ℕ × Data)
head_pairs version line =
    (codes "version", integer (pos version))
    ∷ (codes "tick_us", integer (pos line.tick_us))
    ∷ (codes "horizon", integer (pos line.horizon))
    ∷ (codes "scheme", string (scheme_text line.scheme))
    ∷ (codes "zone1_trip", boolean line.zone1_trip) ∷ []

-- the tables of the terminals and of the channels
abbrev pub table_pairs : ℕ → Line → List (List ℕ × Data)
table_pairs unit line =
    (codes "terminal", array (items_of (terminals_data unit line)))
    ∷ (codes "channel", array (items_of (channels_data unit line))) ∷ []

-- the canonical table of a line, with times in units
unfoldable pub canonical_in : ℕ → ℕ → Line → Members
canonical_in version unit line =
    put_all (table_pairs unit line) (table_of (head_pairs version line))

-- the canonical table of version 1, in ticks, or of version 2, in microseconds
abbrev pub canonical : ℕ → Line → Members
canonical version line = canonical_in version (units_per_tick version line.tick_us) line
