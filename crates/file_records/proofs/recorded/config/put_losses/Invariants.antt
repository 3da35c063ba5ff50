use Rattle.std.proofs.Common.{◌≡◌, ◌++◌}
use Rattle.model_history.specs.Each.{each_below}
use Rattle.file_records.specs.recorded.Config.{loss_line}
use Rattle.file_records.proofs.recorded.config.put_losses.Given as goal

abbrev pub invariant-loop-c : goal.invariant-loop-c
invariant-loop-c l =
    l.text.items ≡ l.initial.text.items ++ each_below l.c (loss_line l.line)
