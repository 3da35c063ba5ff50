use Rattle.std.proofs.Common.{◌≡◌}
use Rattle.model_history.specs.Each.{each_below}
use Rattle.file_records.specs.tracks.Tracks.{track_values}
use Rattle.file_records.specs.tracks.Fields.{change_at}
use Rattle.file_records.proofs.tracks.changes.changes_of.Given as goal

abbrev pub invariant-loop-t : goal.invariant-loop-t
invariant-loop-t l = l.changes.items ≡ each_below l.t (change_at (track_values l.track))
