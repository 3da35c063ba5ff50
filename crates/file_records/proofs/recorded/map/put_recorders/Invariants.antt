use Rattle.std.proofs.Common.{◌≡◌, ◌++◌}
use Rattle.model_history.specs.Each.{each_below}
use Rattle.file_records.specs.recorded.Map.{recorder_text}
use Rattle.file_records.proofs.recorded.map.put_recorders.Given as goal

abbrev pub invariant-loop-k : goal.invariant-loop-k
invariant-loop-k l =
    l.text.items ≡ l.initial.text.items ++ each_below l.k (recorder_text l.line l.name)
