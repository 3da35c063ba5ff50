-- The first key or trip of a line that no recorder tells.
use Rattle.std.specs.Prelude.{◌+◌, ℕ, zero, suc, List, Option, None, Some, length}
use Rattle.std.specs.Prelude.{if◌then◌else◌}
use Rattle.model_line.specs.declared.line.Line.{Line}
use Rattle.file_records.specs.map.Recorders.{RecorderValues}
use Rattle.file_records.specs.declared.map.source.Signal.{Signal}
use Rattle.file_records.specs.declared.map.source.Signal.TheVariants.{Key, Trip}
use Rattle.file_records.specs.tracks.Levels.{is_told}

-- the key of terminal k, or else its trip, if it isn't told
abbrev pub untold_at : List RecorderValues → ℕ → Option Signal
untold_at recorders k =
    if is_told recorders (Key k) then
    if is_told recorders (Trip k) then None else Some (Trip k)
    else Some (Key k)

abbrev pub or_later : Option Signal → Option Signal → Option Signal
or_later (Some signal) later = Some signal
or_later None later = later

-- the first among so many terminals from terminal k on
abbrev pub first_from : List RecorderValues → ℕ → ℕ → Option Signal
first_from recorders k zero = None
first_from recorders k (suc n) =
    or_later (untold_at recorders k) (first_from recorders (k + 1) n)

abbrev pub first_untold : Line → List RecorderValues → Option Signal
first_untold line recorders = first_from recorders 0 (length line.terminals.items)
