use Rattle.std.proofs.Common.{◌≡◌, ◌++◌}
use Rattle.model_history.specs.Each.{each_below}
use Rattle.run_changes.specs.changes.PlayedTracks.{played}
use Rattle.file_records.specs.recorded.Data.{sample_text}
use Rattle.file_records.proofs.recorded.data.put_samples.Given as goal

abbrev pub invariant-loop-t : goal.invariant-loop-t
invariant-loop-t l =
    l.text.items ≡ l.initial.text.items ++ each_below l.t (sample_text l.line l.script (played l.tracks.keys.items l.tracks.trips.items))
