use Rattle.std.proofs.Common.{◌≡◌, ◌-◌, map, length}
use Rattle.file_records.specs.map.Recorders.{recorder_values}
use Rattle.file_records.specs.tracks.Told.{first_from}
use Rattle.file_records.proofs.tracks.told.first_untold.Given as goal

abbrev pub invariant-loop-k : goal.invariant-loop-k
invariant-loop-k l =
    first_from (map recorder_values l.recorders) l.k (length l.line.terminals.items - l.k)
    ≡ first_from (map recorder_values l.recorders) 0 (length l.line.terminals.items)
