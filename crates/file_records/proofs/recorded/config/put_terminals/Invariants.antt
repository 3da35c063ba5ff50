use Rattle.std.proofs.Common.{◌≡◌, ◌++◌}
use Rattle.model_history.specs.Each.{each_below}
use Rattle.file_records.specs.recorded.Config.{terminal_lines}
use Rattle.file_records.proofs.recorded.config.put_terminals.Given as goal

abbrev pub invariant-loop-k : goal.invariant-loop-k
invariant-loop-k l =
    l.text.items ≡ l.initial.text.items ++ each_below l.k (terminal_lines l.line)
