-- The checks of one record, each of them alone.
use Rattle.std.specs.Prelude.{◌&&◌, ◌||◌, ◌==◌, ℕ, Bool, true, false, not, List, nat_lt, codes}
use Rattle.std.specs.Prelude.{Option, None, Some, if◌then◌else◌}
use Rattle.std.specs.{List.list_any, Bool.beq, Str.bytes_eq}
use Rattle.std.proofs.lemmas.Map.Entries.{option_filter}
use Rattle.model_line.specs.declared.line.Line.{Line}
use Rattle.model_names.specs.NumbersByName.{terminal_named}
use Rattle.base_records.specs.{Fields.is_empty, SoFar.SoFar, SoFar.all_of}
use Rattle.judge_match.specs.{matching.Heads.HeadValues, matching.Heads.level_after, declared.matching.change.Change.Change}
use Rattle.judge_match.specs.{declared.matching.change.Place.Place, matching.Row.Row}

-- a head has four empty fields behind its name
abbrev pub is_head : Row → Bool
is_head row =
    is_empty row.tick && (is_empty row.terminal && (is_empty row.signal && is_empty row.level))

-- the name is that of a script, and a head's is that of no head before it
abbrev pub is_taken : SoFar HeadValues → ℕ → Bool
is_taken s script = list_any (λ h. h.script == script) (all_of s)

abbrev pub name_for : SoFar HeadValues → Bool → Option ℕ → Option ℕ
name_for s head None = None
name_for s head (Some script) = if head && is_taken s script then None else Some script

-- a row's place is a terminal's `key` or `trip`
abbrev pub signal_of : List ℕ → Option Bool
signal_of text =
    if bytes_eq text (codes "key") then Some false
    else if bytes_eq text (codes "trip") then Some true
    else None

abbrev pub place_of : Option ℕ → Option Bool → Option Place
place_of None trip = None
place_of (Some terminal) None = None
place_of (Some terminal) (Some trip) = Some (record { terminal = terminal; trip = trip })

abbrev pub place_at : Line → Row → Option Place
place_at line row = place_of (terminal_named line row.terminal) (signal_of row.signal)

-- it comes after the row before it: by tick, then by terminal, then the key before the trip
abbrev pub comes_after : Change → ℕ → Place → Bool
comes_after c t place =
    nat_lt c.tick t || ((c.tick == t) && (nat_lt c.terminal place.terminal
    || ((c.terminal == place.terminal) && (not c.trip && place.trip))))

abbrev pub comes_later : Option Change → ℕ → Place → Bool
comes_later None t place = true
comes_later (Some c) t place = comes_after c t place

abbrev pub level_before : HeadValues → Place → Bool
level_before head place = level_after place.terminal place.trip head.changes false

-- its level is another than the signal has
abbrev pub other_level : Bool → Option Bool → Option Bool
other_level before level = option_filter (λ l. not (beq l before)) level

abbrev pub change_of : Place → ℕ → Bool → Change
change_of place t level =
    record { tick = t; terminal = place.terminal; trip = place.trip; level = level }
