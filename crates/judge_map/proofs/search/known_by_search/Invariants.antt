use Rattle.std.proofs.Common.{◌*◌}
use Rattle.model_line.specs.Parameters.{terminal_count}
use Rattle.judge_map.specs.Asked.{AreKnownOf}
use Rattle.judge_map.proofs.search.known_by_search.Given as goal

abbrev pub invariant-loop-s : goal.invariant-loop-s
invariant-loop-s l = AreKnownOf l.asked (l.s * terminal_count l.asked.line.now) l.known.items
