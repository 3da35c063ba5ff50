use Rattle.std.proofs.Common.{◌*◌, ◌+◌}
use Rattle.model_line.specs.Parameters.{terminal_count}
use Rattle.judge_map.specs.Asked.{AreKnownOf}
use Rattle.judge_map.proofs.search.push_ruled.Given as goal

abbrev pub invariant-loop-k : goal.invariant-loop-k
invariant-loop-k l =
    AreKnownOf l.asked (l.s * terminal_count l.asked.line.now + l.k) l.known.items
