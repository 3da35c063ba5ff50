use Rattle.judge_map.specs.Asked.{AreKnownOf}
use Rattle.judge_map.proofs.rules.known_of_rules.Given as goal

abbrev pub invariant-loop-n : goal.invariant-loop-n
invariant-loop-n l = AreKnownOf l.asked l.n l.known.items
