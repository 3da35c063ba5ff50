use Rattle.std.proofs.Common.{◌*◌}
use Rattle.model_line.specs.Parameters.{terminal_count}
use Rattle.judge_choose.specs.Told.{AreToldBelow}
use Rattle.judge_choose.proofs.table.told.Given as goal

abbrev pub invariant-loop-s : goal.invariant-loop-s
invariant-loop-s l =
    AreToldBelow l.compiled.line.now l.scripts l.covers (l.s * terminal_count l.compiled.line.now)
    l.told.items
