use Rattle.std.proofs.Common.{◌+◌, ◌*◌}
use Rattle.model_line.specs.Parameters.{terminal_count}
use Rattle.judge_choose.specs.Told.{AreToldBelow}
use Rattle.judge_choose.proofs.table.tell_script.Given as goal

abbrev pub invariant-loop-k : goal.invariant-loop-k
invariant-loop-k l =
    AreToldBelow l.compiled.line.now l.scripts l.covers
    (l.s * terminal_count l.compiled.line.now + l.k) l.told.items
