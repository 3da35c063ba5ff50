use Rattle.std.proofs.Common.{length}
use Rattle.call_why.proofs.lines.+push_facts.Given as goal

abbrev pub decreases-push_facts : goal.decreases-push_facts
decreases-push_facts l = length l.facts.now
