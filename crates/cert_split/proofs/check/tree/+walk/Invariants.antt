use Rattle.std.proofs.Common.{length, ◌-◌}
use Rattle.cert_split.proofs.check.tree.+walk.Given as goal

abbrev pub decreases-walk : goal.decreases-walk
decreases-walk l = length l.nodes.now - l.passed.nodes
